-- Of one outer ring each inner one has the first home.
use Rattle.std.proofs.Common.{◌≡◌, ◌∙◌, ◌<◌, ℕ, List, [], ◌∷◌, length, map, refl, sym, ap₂, arith}
use Rattle.std.specs.Prelude.{replicate}
use Rattle.std.proofs.lemmas.List.{length-map}
use Rattle.tgap_model.specs.declared.geometry.Point.{Point}
use Rattle.ring_walk.specs.declared.side.Side.{Side}
use Rattle.topo_write.specs.Building.{ring_at}
use Rattle.topo_write.specs.Polygons.{home_of, lines_of}
use Rattle.topo_write.proofs.NearHomes.{one_home}
use Rattle.topo_write.proofs.homes.homes_of.Goals as goal

all_first : (lines : List (List Point)) (rings : List (List Side)) (outer inner : List ℕ) → length outer < 2 → replicate (length inner) 0 ≡ map (λ p. home_of lines (map (ring_at rings) outer) (ring_at rings p)) inner
all_first lines rings outer [] l = refl
all_first lines rings outer (p ∷ inner) l =
    ap₂ (λ (h : ℕ) (hs : List ℕ). h ∷ hs) (sym (one_home lines (map (ring_at rings) outer) (ring_at rings p) (omega (arith, l, length-map outer (ring_at rings))))) (all_first lines rings outer inner l)

pub returns-then-outer-lt2 : goal.returns-then-outer-lt2
returns-then-outer-lt2 c = c.in_ok-homes.ensures ∙ all_first (lines_of c.args.edges.now) c.args.rings.now c.args.outer.now c.args.inner.now c.if-outer-lt2.true
