use Rattle.std.proofs.Common.{◌≡◌, ◌<◌, ◌++◌, List, [], ◌∷◌, sym, ap, ◌∙◌, subst}
use Rattle.std.proofs.lemmas.List.Elements.{All-nil, All-cons}
use Rattle.std.proofs.lemmas.List.Kept.{AllPairs-cons}
use Rattle.tgap_model.specs.declared.slice.Edge.{Edge}
use Rattle.lemmas.proofs.Members.{AllPairs-nil}
use Rattle.grid_index.specs.Live.{AreLive, IsLiveEdge}
use Rattle.vertex_drop_tests.proofs.sweeps.live_of.Goals as goal

-- two live edges in order of key
two_live : (e f : Edge) → e.key < f.key → IsLiveEdge e → IsLiveEdge f → AreLive (e ∷ f ∷ [])
two_live e f order first second =
    let lt = λ (a b : Edge). a.key < b.key in
    record {
      ascending =
          AllPairs-cons lt e (f ∷ []) (All-cons (lt e) f [] order (All-nil (lt e))) (AllPairs-cons lt f [] (All-nil (lt f)) (AllPairs-nil lt));
      each = All-cons IsLiveEdge e (f ∷ []) first (All-cons IsLiveEdge f [] second (All-nil IsLiveEdge));
    }

pub of-requires : goal.of-requires
of-requires c =
    let e = c.args.first in
    let f = c.args.second in
    let both : c.push-2.new.self ≡ e ∷ f ∷ [] =
    c.in_ok-push-2.ensures ∙ ap (λ (es : List Edge). es ++ f ∷ []) (c.in_ok-push.ensures ∙ ap (λ (es : List Edge). es ++ e ∷ []) c.new-edges.ensures) in
    record { live = subst AreLive (sym both) (two_live e f c.requires.order c.requires.first c.requires.second) }
