use Rattle.std.proofs.Common.{◌≡◌, ◌≢◌, ◌+◌, ◌≤◌, ℕ, ◌++◌, [], List, length, filter, map, All, Contains, IsPermutation, sym, ap, ap₂, ◌∙◌, subst, subst₂, arith}
use Rattle.std.specs.Prelude.{IfNone, IfSome}
use Rattle.std.specs.Vec.{vec_capacity}
use Rattle.std.specs.List.Sorted.{IsNonDecreasing}
use Rattle.std.proofs.lemmas.List.{length-map}
use Rattle.std.proofs.lemmas.List.Sorted.{All-permutation, IsPermutation-trans, IsPermutation-append_right, length_permutation}
use Rattle.tgap_model.specs.declared.slice.Edge.{Edge}
use Rattle.grid_index.specs.declared.keys.KeyBox.{KeyBox}
use Rattle.grid_index.specs.declared.segments.Entry.{Entry}
use Rattle.grid_index.specs.Live.{keys, without_keys, IsLiveEdge}
use Rattle.grid_index.specs.Slots.{held, stays, entry_of, AreNear}
use Rattle.grid_index.specs.Changes.{is_new}
use Rattle.grid_index.proofs.Living.{stay_count, stay_held_count, same_kept, ascend_strictly, apart_permuted, all_fresh, keys_rise, all_near, IsIndexed-changed}
use Rattle.grid_index.proofs.live.Live.replace.Goals as goal

pub entries_of-requires : goal.entries_of-requires
entries_of-requires c =
    subst (All IsLiveEdge) (sym c.deref.ensures.value) (All-permutation IsLiveEdge c.args.come c.by_key-come.result.items c.by_key-come.ensures.same c.requires.live)

pub keys_without-requires : goal.keys_without-requires
keys_without-requires c =
    subst IsNonDecreasing (sym (c.deref-5.ensures.value ∙ c.in_ok-keys.ensures ∙ ap keys c.deref-2.ensures.value)) (keys_rise c.by_key-come.result.items c.by_key-come.ensures.ascending)

pub overflow_sub-count : goal.overflow_sub-count
overflow_sub-count c =
    let gone = c.args.gone.now in
    let sorted = c.in_ok-gone.gone.items in
    let many = length_permutation gone sorted (subst (λ (l : List ℕ). IsPermutation l sorted) c.as_slice.ensures c.in_ok-gone.ensures.same) in
    let count = stay_count gone c.args.self.now c.requires.there c.requires.apart in
    let all = ap length (c.as_slice-count.ensures ∙ c.self.view_is) in
    omega (arith, many, count, all, c.len.ensures, c.in_ok-gone.gone.ok.0)

pub replace-requires-clause-room : goal.replace-requires-clause-room
replace-requires-clause-room c =
    let gone = c.args.gone.now in
    let sorted = c.in_ok-gone.gone.items in
    let come = c.by_key-come.result.items in
    let edges = c.self.inside.edges in
    let slots = c.self.inside.slots in
    let entries = c.in_ok-entries.entries.items in
    let moved = subst (λ (l : List ℕ). IsPermutation l sorted) c.as_slice.ensures c.in_ok-gone.ensures.same in
    let many = length_permutation gone sorted moved in
    let count = stay_count gone c.args.self.now c.requires.there c.requires.apart in
    let all = ap length (c.as_slice-count.ensures ∙ c.self.view_is) in
    let taken = ap (map (λ (s : KeyBox). s.key)) c.deref-7.ensures.value ∙ c.in_ok-sought.ensures.keys ∙ c.deref-3.ensures.value in
    let stay : length (filter (stays (map (λ s. s.key) c.deref-7.result.now)) (held c.widen.new.self)) ≡ length (without_keys gone c.args.self.now) =
    ap₂ (λ (k : List ℕ) (es : List Entry). length (filter (stays k) es)) taken c.in_ok-widen.ensures.held
    ∙ stay_held_count sorted edges slots c.self.invariant.held ∙ ap length (same_kept gone sorted edges moved) ∙ ap (λ (l : List Edge). length (without_keys gone l)) c.self.view_is in
    let new : length (held entries) ≡ length come = ap length (c.in_ok-entries.ensures.held ∙ ap (map entry_of) c.deref.ensures.value) ∙ length-map come entry_of in
    omega (arith, many, count, all, stay, new, c.len.ensures, c.len-2.ensures, c.in_ok-widen.ensures.room, c.in_ok-gone.gone.ok.0, c.by_key-come.result.ok.0)

pub replace-requires-clause-near : goal.replace-requires-clause-near
replace-requires-clause-near c =
    let edges = c.self.inside.edges in
    let near = subst (λ (es : List Edge). All (λ s. AreNear s.area s.key (map entry_of es)) c.in_ok-sought.sought.items) c.as_slice-2.ensures c.in_ok-sought.ensures.near in
    subst (All (λ s. AreNear s.area s.key (held c.widen.new.self))) (sym c.deref-7.ensures.value)
    (all_near c.in_ok-sought.sought.items (map entry_of edges) (held c.self.inside.slots) (held c.widen.new.self) c.self.invariant.held c.in_ok-widen.ensures.held near)

pub replace-requires-clause-keys : goal.replace-requires-clause-keys
replace-requires-clause-keys c =
    let come = c.by_key-come.result.items in
    ap length (c.deref-8.ensures.value ∙ c.in_ok-keys.ensures) ∙ length-map c.deref-2.result.now (λ (e : Edge). e.key)
    ∙ ap length (c.deref-2.ensures.value ∙ sym c.deref.ensures.value) ∙ sym c.in_ok-entries.ensures.len

pub changed-requires-clause-ended : goal.changed-requires-clause-ended
changed-requires-clause-ended c =
    let listed = c.deref-5.ensures.value ∙ c.in_ok-keys.ensures ∙ ap keys c.deref-2.ensures.value in
    c.deref-10.ensures.value ∙ c.in_ok-ended.ensures
    ∙ ap₂ (λ (ks gone : List ℕ). filter (is_new ks) gone) listed (c.deref-4.ensures.value ∙ sym c.deref-9.ensures.value)

pub changed-requires-clause-there : goal.changed-requires-clause-there
changed-requires-clause-there c =
    let listed = c.deref-6.ensures.value ∙ c.in_ok-keys.ensures ∙ ap keys c.deref-2.ensures.value in
    subst₂ (λ (es : List Edge) (ks : List ℕ). IfNone c.in_ok-room.room (All (Contains (keys es)) ks)) (c.as_slice-3.ensures ∙ sym c.replace-edges.ensures.value) listed c.in_ok-room.ensures.none

pub changed-requires-clause-room : goal.changed-requires-clause-room
changed-requires-clause-room c =
    let come = c.by_key-come.result.items in
    let listed = ap length (c.deref-6.ensures.value ∙ c.in_ok-keys.ensures) ∙ length-map c.deref-2.result.now (λ (e : Edge). e.key) ∙ ap length c.deref-2.ensures.value ∙ sym c.by_key-come.result.ok.0 in
    subst₂ (λ m n. IfSome c.in_ok-room.room (λ v. (v.items ≡ []) × (m + n ≤ vec_capacity v))) (ap length (c.as_slice-3.ensures ∙ sym c.replace-edges.ensures.value)) listed c.in_ok-room.ensures.some

pub changed-requires-clause-come : goal.changed-requires-clause-come
changed-requires-clause-come c =
    let come = c.by_key-come.result.items in
    ascend_strictly come c.by_key-come.ensures.ascending (apart_permuted c.args.come come c.by_key-come.ensures.same c.requires.distinct)

pub changed-requires-clause-fresh : goal.changed-requires-clause-fresh
changed-requires-clause-fresh c =
    let gone = c.args.gone.now in
    let sorted = c.in_ok-gone.gone.items in
    let come = c.by_key-come.result.items in
    let edges = c.args.self.now in
    let moved = subst (λ (l : List ℕ). IsPermutation l sorted) c.as_slice.ensures c.in_ok-gone.ensures.same in
    let stay = ap₂ without_keys c.deref-9.ensures.value (c.replace-edges.ensures.value ∙ c.self.view_is) ∙ same_kept gone sorted edges moved in
    subst (λ (l : List Edge). All (λ e. All (λ f. f.key ≢ e.key) come) l) (sym stay)
    (all_fresh (without_keys gone edges) c.args.come come c.by_key-come.ensures.same c.requires.fresh)

pub invariant_of-self-2 : goal.invariant_of-self-2
invariant_of-self-2 c =
    let sorted = c.in_ok-gone.gone.items in
    let come = c.by_key-come.result.items in
    let edges = c.self.inside.edges in
    let slots = c.self.inside.slots in
    let new = c.changed.result in
    let newer = c.replace.new.self in
    let alive = All-permutation IsLiveEdge c.args.come come c.by_key-come.ensures.same c.requires.live in
    let parts = ap₂ (λ (xs ys : List Entry). xs ++ ys) (ap₂ (λ (k : List ℕ) (es : List Entry). filter (stays k) es) (ap (map (λ (s : KeyBox). s.key)) c.deref-7.ensures.value ∙ c.in_ok-sought.ensures.keys ∙ c.deref-3.ensures.value) c.in_ok-widen.ensures.held)
    (c.in_ok-entries.ensures.held ∙ ap (map entry_of) c.deref.ensures.value) in
    let stay = ap (λ (l : List Edge). l ++ come) (ap₂ without_keys c.deref-9.ensures.value c.replace-edges.ensures.value) in
    IsIndexed-changed sorted edges come new slots newer c.self.invariant.live alive c.self.invariant.held
    (subst (λ (l : List Entry). IsPermutation l (held newer)) parts c.in_ok-replace.ensures.ok)
    (subst (λ (l : List Edge). IsPermutation l new) stay c.changed.ensures.same) c.changed.ensures.ascending

pub returns-clause-ok : goal.returns-clause-ok
returns-clause-ok c =
    let gone = c.args.gone.now in
    let sorted = c.in_ok-gone.gone.items in
    let come = c.by_key-come.result.items in
    let edges = c.args.self.now in
    let new = c.changed.result in
    let moved = subst (λ (l : List ℕ). IsPermutation l sorted) c.as_slice.ensures c.in_ok-gone.ensures.same in
    let stay = ap₂ without_keys c.deref-9.ensures.value (c.replace-edges.ensures.value ∙ c.self.view_is) ∙ same_kept gone sorted edges moved in
    IsPermutation-trans (without_keys gone edges ++ c.args.come) (without_keys gone edges ++ come) new
    (IsPermutation-append_right (without_keys gone edges) c.args.come come c.by_key-come.ensures.same)
    (subst (λ (l : List Edge). IsPermutation (l ++ come) new) stay c.changed.ensures.same)
