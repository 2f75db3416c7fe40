use Rattle.std.proofs.Common.{◌≡◌, ◌+◌, ◌-◌, ◌<◌, length, get_or, inl, inr, sym, ap, ◌∙◌, arith}
use Rattle.std.proofs.lemmas.Bool.{cases_lt}
use Rattle.std.proofs.lemmas.List.{get_or_default}
use Rattle.planar_stack.specs.Sweep.{sides_at}
use Rattle.planar_stack.proofs.scan.agreeing.Goals as goal

pub loop-i-preserved : goal.loop-i-preserved
loop-i-preserved c =
    let starts = c.args.starts.now in
    let numbers = c.args.numbers.now in
    let i = c.loop-i.i in
    let short : i < length numbers = omega arith in
    record {
      last = λ d.
          let there : i ≡ (i + 1) - 1 = omega arith in
          c.faces-next.ensures.lower ∙ ap (λ n. (sides_at starts n).lower) (get_or_default numbers i 0 d short ∙ ap (λ j. get_or numbers j d) there);
      agree = λ k d less. elim (cases_lt (k + 1) i) [
        | inl before ↦ c.loop-i.invariant.agree k d before
        | inr le ↦
            let above : k ≡ i - 1 = omega (arith, less, le) in
            let here : i ≡ k + 1 = omega (arith, less, le) in
            let same : c.loop-i.lower ≡ c.faces-next.result.0 = omega (arith, c.if-next-lower.false) in
            ap (λ j. (sides_at starts (get_or numbers j d)).lower) above ∙ sym (c.loop-i.invariant.last d) ∙ same ∙ c.faces-next.ensures.upper
            ∙ ap (λ n. (sides_at starts n).upper) (get_or_default numbers i 0 d short ∙ ap (λ j. get_or numbers j d) here)
      ];
    }
