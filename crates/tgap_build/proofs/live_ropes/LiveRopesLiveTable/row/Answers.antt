-- The edge at the place of a key is the one with that key.
use Rattle.std.proofs.Common.{◌≡◌, ◌≢◌, ℕ, ◌<◌, List, length, get_or, All, Some, None, sym, ap, ◌∙◌, subst}
use Rattle.std.specs.Option.{option_map}
use Rattle.tgap_model.specs.declared.slice.Edge.{Edge}
use Rattle.grid_index.specs.Keyed.{edge_in}
use Rattle.grid_index.proofs.KeyedPlaces.{found_by_key, none_by_key}
use Rattle.tgap_build.proofs.live_ropes.LiveRopesLiveTable.row.Goals as goal

pub returns-in-Some-clause-some : goal.returns-in-Some-clause-some
returns-in-Some-clause-some c j d l same =
    let places = c.self.inside.places.now in
    let key = c.args.key in
    let told = sym (ap (option_map (λ e. e.now)) c.in-Some.is) ∙ c.edge_with_key.ensures in
    ap Some c.of_rope.ensures ∙ told
    ∙ subst (λ (es : List Edge). (j : ℕ) (d : Edge) → j < length es → (get_or es j d).key ≡ key → edge_in places key ≡ Some (get_or es j d)) c.self.view_is
    (found_by_key places c.self.invariant.0 key) j d l same

pub returns-in-Some-clause-none : goal.returns-in-Some-clause-none
returns-in-Some-clause-none c h =
    let places = c.self.inside.places.now in
    let key = c.args.key in
    let told = sym (ap (option_map (λ e. e.now)) c.in-Some.is) ∙ c.edge_with_key.ensures in
    ap Some c.of_rope.ensures ∙ told
    ∙ subst (λ (es : List Edge). All (λ e. e.key ≢ key) es → edge_in places key ≡ None) c.self.view_is (none_by_key places c.self.invariant.0 key) h

pub returns-in-None-clause-some : goal.returns-in-None-clause-some
returns-in-None-clause-some c j d l same =
    let places = c.self.inside.places.now in
    let key = c.args.key in
    let told = sym (ap (option_map (λ e. e.now)) c.in-None.is) ∙ c.edge_with_key.ensures in
    told
    ∙ subst (λ (es : List Edge). (j : ℕ) (d : Edge) → j < length es → (get_or es j d).key ≡ key → edge_in places key ≡ Some (get_or es j d)) c.self.view_is
    (found_by_key places c.self.invariant.0 key) j d l same
