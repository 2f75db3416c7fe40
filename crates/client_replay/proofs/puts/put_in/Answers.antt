use Rattle.std.proofs.Common.{◌≡◌, ◌+◌, ◌-◌, ◌++◌, ◌∷◌, [], List, pos, length, take, drop, get_or, sym, ap, ap₂, ◌∙◌, arith}
use Rattle.tgap_model.specs.declared.geometry.Point.{Point}
use Rattle.tgap_model.specs.declared.record.Put.{Put}
use Rattle.tgap_model.specs.Records.{put_in}
use Rattle.client_replay.proofs.Walks.{drop_next}
use Rattle.client_replay.proofs.Putting.{start_at, start_at_zero, put_past}
use Rattle.client_replay.proofs.puts.put_in.Goals as goal

pub loop-put-init : goal.loop-put-init
loop-put-init c = record {
  same = ap (λ (zs : List Point). put_in c.args.puts.now (zs ++ c.args.points.now)) c.in_ok-all.ensures.items;
  ascend = ap (λ (zs : List Point). start_at (length zs) c.args.puts.now) c.in_ok-all.ensures.items ∙ start_at_zero c.args.puts.now c.requires;
}

pub loop-put-preserved : goal.loop-put-preserved
loop-put-preserved c =
    let puts = c.args.puts.now in
    let i = c.loop-put.put-index in
    let p : Put = get_or puts i (record { at = 0; point = record { x = pos 0; y = pos 0 } }) in
    let left = drop (i + 1) puts in
    let all = c.loop-put.all.items in
    let rest = c.loop-put.rest.now in
    let next = drop_next puts i (record { at = 0; point = record { x = pos 0; y = pos 0 } }) c.loop-put-test.true in
    let past = put_past all rest p left (ap (start_at (length all)) (sym next) ∙ c.loop-put.invariant.ascend) in
    let count : c.len.result ≡ length all = omega (arith, c.len.ensures) in
    let front : c.split.result.0.now ≡ take (p.at - length all) rest = c.split.ensures.passed ∙ ap (λ n. take (p.at - n) rest) count in
    let back : c.split.result.1.now ≡ drop (p.at - length all) rest = c.split.ensures.later ∙ ap (λ n. drop (p.at - n) rest) count in
    let pushed : c.push.new.self.items ≡ (all ++ take (p.at - length all) rest) ++ p.point ∷ [] =
    c.in_ok-push.ensures.items ∙ ap (λ (zs : List Point). zs ++ p.point ∷ []) (c.in_ok-extend_from_slice.ensures.items ∙ ap (λ (zs : List Point). all ++ zs) front) in
    record {
      same = ap₂ (λ (xs ys : List Point). put_in left (xs ++ ys)) pushed back ∙ sym past.0 ∙ ap (λ (qs : List Put). put_in qs (all ++ rest)) (sym next) ∙ c.loop-put.invariant.same;
      ascend = ap (λ (zs : List Point). start_at (length zs) left) pushed ∙ past.1;
    }
