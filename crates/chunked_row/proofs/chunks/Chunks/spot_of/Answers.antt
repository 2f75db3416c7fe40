use Rattle.std.proofs.Common.{◌+◌, ◌<◌, ◌≤◌, List, ℕ, length, get_or, ap, ◌∙◌, subst, arith}
use Rattle.chunked_row.specs.Chunks.{starts_from}
use Rattle.chunked_row.proofs.Places.{starts_size, start_low, spot_found}
use Rattle.chunked_row.proofs.chunks.Chunks.spot_of.Goals as goal

pub last_before-chunk-requires : goal.last_before-chunk-requires
last_before-chunk-requires c = record {
  some = omega (arith, ap length c.deref.ensures.value, starts_size c.self.inside.starts.items c.self.inside.chunks.items c.self.invariant, ap length c.self.view_is, c.requires.some);
}

pub overflow_sub-result : goal.overflow_sub-result
overflow_sub-result c =
    let starts = c.self.inside.starts.items in
    let xss = c.args.self.now in
    let k = c.last_before-chunk.result in
    let are = c.self.invariant ∙ ap (starts_from 0) c.self.view_is in
    let short : k < length xss = omega (arith, ap length c.deref.ensures.value, starts_size starts xss are, c.last_before-chunk.ensures.within) in
    start_low starts xss c.args.place k c.index.result.now are short (subst (λ (zs : List ℕ). 0 < k → get_or zs k 0 < c.args.place) c.deref.ensures.value c.last_before-chunk.ensures.begun) c.index.ensures

pub returns : goal.returns
returns c =
    let starts = c.self.inside.starts.items in
    let xss = c.args.self.now in
    let k = c.last_before-chunk.result in
    let are = c.self.invariant ∙ ap (starts_from 0) c.self.view_is in
    let short : k < length xss = omega (arith, ap length c.deref.ensures.value, starts_size starts xss are, c.last_before-chunk.ensures.within) in
    spot_found starts xss c.args.place k c.index.result.now are short (subst (λ (zs : List ℕ). 0 < k → get_or zs k 0 < c.args.place) c.deref.ensures.value c.last_before-chunk.ensures.begun) c.index.ensures
    (subst (λ (zs : List ℕ). k + 1 < length zs → c.args.place ≤ get_or zs (k + 1) 0) c.deref.ensures.value c.last_before-chunk.ensures.next) c.requires.within
