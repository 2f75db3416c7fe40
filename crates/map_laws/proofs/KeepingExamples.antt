-- What a keeper of batches tells, on a worked batch: what it takes, what a call does to it, and what its entries come to.
use Rattle.std.proofs.Common.{◌≡◌, ℕ, List, [], ◌∷◌, refl, inl, inr, Some, None, Ok, Err, codes, arith}
use Rattle.tgap_model.specs.declared.keep.KeepFail.TheVariants.{Failed}
use Rattle.tgap_model.specs.Keeping.{KeptEntry, Kept, sure_of, keep_size, Keeps, folded, bad_entry}

abbrev moved : List ℕ
moved = codes "move 20 10 24 10\n"

abbrev dropped : List ℕ
dropped = codes "drop 24 10\n"

abbrev entry : ℕ → List ℕ → KeptEntry
entry number batch = record { number = number; batch = batch }

abbrev in_doubt : Kept
in_doubt = record { entries = []; doubt = Some (entry 1 moved) }

-- one entry takes 14 bytes beside its batch, and 13 where another stands after it
one_takes : keep_size [] (entry 1 moved) ≡ 31
one_takes = refl

two_take : keep_size (entry 1 moved ∷ []) (entry 2 dropped) ≡ 55
two_take = refl

-- it is kept where there is just room for it
first_kept : Keeps {T = ℕ} (Some 31) (sure_of []) (Some (sure_of (entry 1 moved ∷ []))) (entry 1 moved) (Ok 0)
first_kept = ([], inl refl, (sure_of (entry 1 moved ∷ []), refl, (refl, omega arith)))

-- a failure leaves it in doubt
first_failed : Keeps {T = ℕ} None (sure_of []) (Some in_doubt) (entry 1 moved) (Err Failed)
first_failed = ([], inl refl, (in_doubt, refl, inr refl))

-- the same batch again: the entry in doubt was kept, or it was not
kept_twice : Keeps {T = ℕ} None in_doubt (Some (sure_of (entry 1 moved ∷ entry 1 moved ∷ []))) (entry 1 moved) (Ok 0)
kept_twice = (entry 1 moved ∷ [], inr (entry 1 moved, refl, refl), (sure_of (entry 1 moved ∷ entry 1 moved ∷ []), refl, (refl, tt)))

kept_once : Keeps {T = ℕ} None in_doubt (Some (sure_of (entry 1 moved ∷ []))) (entry 1 moved) (Ok 0)
kept_once = ([], inl refl, (sure_of (entry 1 moved ∷ []), refl, (refl, tt)))

-- two entries of one number come to one batch, the later one, and to no more than those before it
later_counts : folded (entry 1 moved ∷ entry 2 moved ∷ entry 1 dropped ∷ []) ≡ dropped ∷ []
later_counts = refl

follows : bad_entry (entry 1 moved ∷ entry 2 moved ∷ entry 1 dropped ∷ entry 2 moved ∷ []) ≡ None
follows = refl

-- after one batch the number 3 does not follow, nor does 0
leaves_one_out : bad_entry (entry 1 moved ∷ entry 3 dropped ∷ []) ≡ Some 1
leaves_one_out = refl

number_of_no_batch : bad_entry (entry 0 moved ∷ []) ≡ Some 0
number_of_no_batch = refl
