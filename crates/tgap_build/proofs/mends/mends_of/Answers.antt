-- One more mend, where it is needed.
use Rattle.std.proofs.Common.{◌<◌, Bool, cond, List, [], ◌∷◌, ◌++◌, append_assoc, length, All, sym, ap, ◌∙◌, subst}
use Rattle.std.specs.Prelude.{flat_map}
use Rattle.std.proofs.lemmas.List.Elements.{All-tail}
use Rattle.tgap_model.specs.declared.record.Mend.{Mend}
use Rattle.tgap_model.specs.declared.record.Put.{Put}
use Rattle.tgap_model.specs.Records.{is_needed}
use Rattle.tgap_build.specs.declared.live_edges.Made.{Made}
use Rattle.tgap_build.specs.Changes.{made_mend, made_mends}
use Rattle.tgap_build.proofs.mends.mends_of.Goals as goal

pub loop-one-preserved-in_ok-push : goal.loop-one-preserved-in_ok-push
loop-one-preserved-in_ok-push c =
    let places = c.args.edges.now.places.items in
    let loser = c.args.step.now.loser in
    let one = c.in-Some.one in
    let before = c.loop-one.mends in
    let rest = c.next.new.self.rest.items in
    let next = c.in-Some.ensures.steps.0 in
    record {
      mends = λ now same.
          let mend : Mend = made_mend places now one in
          let all = flat_map (made_mends places loser now) rest in
          let is = ap (λ (ps : List Put). record { key = one.key; puts = ps; pieces = one.pieces }) (c.in_ok-puts_at.ensures now same) in
          ap (λ (ms : List Mend). ms ++ all) (c.in_ok-push.ensures ∙ ap (λ (m : Mend). before ++ m ∷ []) is)
          ∙ append_assoc before (mend ∷ []) all
          ∙ ap (λ (b : Bool). before ++ (cond b (mend ∷ []) [] ++ all)) (sym (ap (is_needed loser) (sym is) ∙ sym c.is_needed.ensures ∙ c.if-is_needed.true))
          ∙ ap (λ (os : List Made). before ++ flat_map (made_mends places loser now) os) (sym next)
          ∙ c.loop-one.invariant.mends now same;
      inside = All-tail (λ (o : Made). o.key < length places) one rest (subst (All (λ (o : Made). o.key < length places)) next c.loop-one.invariant.inside);
    }

pub loop-one-preserved : goal.loop-one-preserved
loop-one-preserved c =
    let places = c.args.edges.now.places.items in
    let loser = c.args.step.now.loser in
    let one = c.in-Some.one in
    let before = c.loop-one.mends in
    let rest = c.next.new.self.rest.items in
    let next = c.in-Some.ensures.steps.0 in
    record {
      mends = λ now same.
          let mend : Mend = made_mend places now one in
          let all = flat_map (made_mends places loser now) rest in
          let is = ap (λ (ps : List Put). record { key = one.key; puts = ps; pieces = one.pieces }) (c.in_ok-puts_at.ensures now same) in
          ap (λ (b : Bool). before ++ (cond b (mend ∷ []) [] ++ all)) (sym (ap (is_needed loser) (sym is) ∙ sym c.is_needed.ensures ∙ c.if-is_needed.false))
          ∙ ap (λ (os : List Made). before ++ flat_map (made_mends places loser now) os) (sym next)
          ∙ c.loop-one.invariant.mends now same;
      inside = All-tail (λ (o : Made). o.key < length places) one rest (subst (All (λ (o : Made). o.key < length places)) next c.loop-one.invariant.inside);
    }
