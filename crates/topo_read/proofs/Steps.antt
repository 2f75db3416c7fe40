-- What a step gives behind a fault, as it is seen.
use Rattle.std.proofs.Common.{◌≡◌, Option, Some, None, Result, Ok, option_map, sym, ap}
use Rattle.std.specs.Option.{ok_or}
use Rattle.tgap_model.specs.declared.failure.Or.TheVariants.{Fault}
use Rattle.topo_read.specs.Seen.{GivesSeen}

-- what is given twice is one
pub ok_same : {A F : Type 0} (x y : A) → ◌≡◌ {A = Result A F} (Ok x) (Ok y) → x ≡ y
ok_same x y e = cc

pub some_same : {A : Type 0} (x y : A) → Some x ≡ Some y → x ≡ y
some_same x y e = cc

-- what there is, or the fault
pub seen_or : {X Y F : Type 0} (seen : X → Y) (given : Option X) (read : Option Y) (bad : F) → option_map seen given ≡ read → GivesSeen seen (ok_or given (Fault bad)) (ok_or read bad)
seen_or seen (Some x) read bad e = sym (ap (λ r. ok_or r bad) e)
seen_or seen None read bad e = sym (ap (λ r. ok_or r bad) e)
