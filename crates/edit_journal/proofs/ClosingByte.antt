-- What the closing of a journal behind its entries does to its bytes.
use Rattle.std.proofs.Common.{◌≡◌, ℕ, ◌<◌, ◌≤◌, Bool, true, false, nat_le, ◌||◌, ◌==◌, List, [], ◌∷◌, ◌++◌, get_or, length, None, refl, sym, ◌∙◌, ap, subst}
use Rattle.std.proofs.lemmas.Bool.{eqb-false, leb-false}
use Rattle.edit_journal.specs.Disk.{IsWritten, Torn}
use Rattle.edit_journal.specs.Entries.{entry_at, entries_of}
use Rattle.edit_journal.specs.Images.{is_closed}
use Rattle.edit_journal.proofs.EntryLists.{Split, split_entries, ends_sized}
use Rattle.edit_journal.proofs.Rest.{AtRest, byte_behind}
use Rattle.edit_journal.proofs.Crash.{IsOpenEnd, closing_torn, closing_written}

or_both : (a b : Bool) → (a || b) ≡ false → (a ≡ false) × (b ≡ false)
or_both true b p = absurd (cc)
or_both false b p = (refl, p)

open_end : (front rest : List ℕ) (end : ℕ) → length front ≡ end → entry_at rest ≡ None → (get_or (front ++ rest) end 1 == 0) ≡ false → IsOpenEnd rest
open_end front [] end is none not_0 = tt
open_end front (byte ∷ more) end is none not_0 = (λ zero. eqb-false (get_or (front ++ byte ∷ more) end 1) 0 not_0 (byte_behind front (byte ∷ more) end is ∙ zero), none)

module _ (most : ℕ) (image : List ℕ) (not_closed : is_closed most image ≡ false) (within : length image ≤ most) where
  cut : Split image (entries_of image)
  cut = split_entries image

  tests : ((get_or image (entries_of image).1 1 == 0) ≡ false) × (nat_le most (entries_of image).1 ≡ false)
  tests = or_both _ _ not_closed

  opens : IsOpenEnd cut.rest
  opens = open_end cut.front cut.rest (entries_of image).1 cut.end cut.none (subst (λ (l : List ℕ). (get_or l (entries_of image).1 1 == 0) ≡ false) cut.split tests.0)

  pub room : (entries_of image).1 < most
  room = leb-false most (entries_of image).1 tests.1

  pub torn_keeps : (after : List ℕ) → Torn (entries_of image).1 1 image after → entries_of after ≡ entries_of image
  torn_keeps after torn =
      closing_torn most (entries_of image).0 cut.front cut.rest cut.whole (entries_of image).1 cut.end opens after (subst (λ (l : List ℕ). Torn (entries_of image).1 1 l after) cut.split torn)
      ∙ ap (λ (n : ℕ). ((entries_of image).0, n)) (sym (ends_sized image))

  pub written_rests : (after : List ℕ) → IsWritten image (entries_of image).1 (0 ∷ []) after → AtRest most (entries_of image).0 after
  written_rests after written =
      closing_written most (entries_of image).0 cut.front cut.rest cut.whole (entries_of image).1 cut.end opens after (subst (λ (l : List ℕ). IsWritten l (entries_of image).1 (0 ∷ []) after) cut.split written) room (subst (λ (l : List ℕ). length l ≤ most) cut.split within)
