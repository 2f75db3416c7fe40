-- The next segment has its keys behind those before it.
use Rattle.std.proofs.Common.{◌≡◌, ℕ, ◌+◌, ◌-◌, Bool, ◌&&◌, ◌++◌, List, length, flat_map, refl, sym, ap, ◌∙◌, arith}
use Rattle.std.specs.List.{range_with_len}
use Rattle.std.proofs.lemmas.Bool.{lt-ltb}
use Rattle.tgap_model.specs.declared.geometry.Seg.{Seg}
use Rattle.tgap_model.specs.declared.segment.LabelledSegment.{LabelledSegment}
use Rattle.planar_sweep.specs.declared.events.Link.{Link}
use Rattle.planar_sweep.specs.Rows.{seg_at}
use Rattle.planar_sweep.specs.EventKeys.{is_onward, is_back, link_at, link_before, keys_at, own_keys}
use Rattle.planar_sweep.proofs.EventKeys.{flat_map-range_more}
use Rattle.planar_sweep.proofs.events.listed_keys.Goals as goal

-- the link of a segment is that before the next one
link_before-next : (segments : List LabelledSegment) (segs : List Seg) (n : ℕ) → link_at segments segs n ≡ link_before segments segs (n + 1)
link_before-next segments segs n = ap (λ m. link_at segments segs m) same ∙ ap (λ (b : Bool). record { onward = b && is_onward segments segs ((n + 1) - 1); back = b && is_back segments segs ((n + 1) - 1) }) (sym (lt-ltb 0 (n + 1) (omega arith)))
  where
    same : n ≡ (n + 1) - 1
    same = omega arith

pub loop-number-init : goal.loop-number-init
loop-number-init c = record { listed = c.in_ok-keys.ensures.items; before = refl }

pub loop-number-preserved : goal.loop-number-preserved
loop-number-preserved c =
    let segments = c.args.segments.now in
    let segs = c.args.segs.now in
    let n = c.loop-number.number in
    record {
      listed = c.in_ok-push_events.ensures
          ∙ ap (λ (l : Link). c.loop-number.keys.items ++ keys_at (seg_at segs n) n l c.link_at-link.result) c.loop-number.invariant.before
          ∙ ap (λ (l : Link). c.loop-number.keys.items ++ keys_at (seg_at segs n) n (link_before segments segs n) l) c.link_at-link.ensures
          ∙ ap (λ (ks : List ℕ). ks ++ own_keys segments segs n) c.loop-number.invariant.listed
          ∙ sym (flat_map-range_more (own_keys segments segs) 0 n n (omega arith));
      before = c.link_at-link.ensures ∙ link_before-next segments segs n;
    }

pub returns : goal.returns
returns c =
    let all : c.loop-number.number ≡ length c.args.segs.now = omega (arith, c.loop-number-test.false, c.loop-number.auto.number-end) in
    c.loop-number.invariant.listed ∙ ap (λ (n : ℕ). flat_map (own_keys c.args.segments.now c.args.segs.now) (range_with_len 0 n)) all
