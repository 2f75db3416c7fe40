-- One item more.
use Rattle.std.proofs.Common.{◌≡◌, ℕ, zero, suc, ◌+◌, ◌<◌, Bool, List, [], ◌∷◌, ◌++◌, length, map, sum_by, count_by, Some, None, IsSome, refl, sym, ap, ◌∙◌, subst, arith, append_assoc, add-zero, length-append, slice_get}
use Rattle.std.proofs.lemmas.List.{append-nil}
use Rattle.std.proofs.lemmas.Grind.{common_steps}
use Rattle.std.proofs.lemmas.List.Sums.{sum_by-append, sum_by-cons}
use Rattle.std.proofs.lemmas.Option.{slice_get_within}
use Rattle.std.specs.Option.{option_and_then}
use Rattle.tgap_model.specs.Base.{BaseMap}
use Rattle.session.specs.declared.row.Row.{Row}
use Rattle.session.specs.declared.row.Row.TheVariants.{Read, Pinned, SeenPinned, Behind, Refused, Published, Stale, Full, NoMemory, Unkept, KeeperFull}
use Rattle.session.specs.Items.{Item, Asked, asked_of}
use Rattle.session.specs.Answers.{read_answer}
use Rattle.session.specs.Outcomes.{Standing, Turn, next, standing, pin_after, IsGoodEdit, IsNews, Holds, answer_of, edit_answer, Outcomes, replies, reply_in, sent, is_final}
use Rattle.session.proofs.Kept.{get_longer}

-- ---- a longer list of versions

-- there is one version more, at least, than the number
within_longer : {X : Type 0} (h more : List X) (n : ℕ) → n < length h → n < length (h ++ more)
within_longer h more n below = simp length-append (omega arith)

-- the answer of a row stays what it is
pub answer_longer : (row : Row) (h more : List BaseMap) (pin : ℕ) (asked : Asked) (n : ℕ) (b : BaseMap) → slice_get h pin ≡ Some b
    → answer_of row (h ++ more) pin asked n ≡ answer_of row h pin asked n
answer_longer Read h more pin asked n b e = ap (option_and_then (λ m. read_answer pin m asked)) (get_longer h more pin b e ∙ sym e)
answer_longer Refused h more pin asked n b e = ap (option_and_then (λ m. edit_answer m asked)) (get_longer h more pin b e ∙ sym e)
answer_longer Pinned h more pin asked n b e = refl
answer_longer SeenPinned h more pin asked n b e = refl
answer_longer Behind h more pin asked n b e = refl
answer_longer Published h more pin asked n b e = refl
answer_longer Stale h more pin asked n b e = refl
answer_longer Full h more pin asked n b e = refl
answer_longer NoMemory h more pin asked n b e = refl
answer_longer Unkept h more pin asked n b e = refl
answer_longer KeeperFull h more pin asked n b e = refl

news_longer : (h more : List BaseMap) (known n : ℕ) → IsNews h known n → IsNews (h ++ more) known n
news_longer h more known n i = record { there = within_longer h more n i.there; news = i.news }

good_longer : (h more : List BaseMap) (pin : ℕ) (asked : Asked) (made : BaseMap) → IsGoodEdit h pin asked made → IsGoodEdit (h ++ more) pin asked made
good_longer h more pin asked made i = record {
  batch = i.batch;
  is_edit = i.is_edit;
  base = i.base;
  pinned = get_longer h more pin i.base i.pinned;
  outcome = i.outcome;
  sound = i.sound;
}

-- an outcome that holds over a list holds over a longer one
pub holds_longer : (row : Row) (limit : ℕ) (h more : List BaseMap) (s : Standing) (asked : Asked) (n : ℕ) (b : BaseMap) → slice_get h s.pin ≡ Some b
    → Holds row limit h s asked n → Holds row limit (h ++ more) s asked n
holds_longer Read limit h more s asked n b e (is, some) = (is, subst IsSome (sym (answer_longer Read h more s.pin asked n b e)) some)
holds_longer Refused limit h more s asked n b e (is, some) = (is, subst IsSome (sym (answer_longer Refused h more s.pin asked n b e)) some)
holds_longer Pinned limit h more s asked n b e (is, i) = (is, news_longer h more s.known n i)
holds_longer SeenPinned limit h more s asked n b e (seen, body, is, i, le) = (seen, body, is, news_longer h more s.known n i, le)
holds_longer Behind limit h more s asked n b e (seen, body, is, i, lt) = (seen, body, is, news_longer h more s.known n i, lt)
holds_longer Published limit h more s asked n b e (made, i, there, next, above, room) =
    (made, good_longer h more s.pin asked made i, get_longer h more n made there, next, above, room)
holds_longer Stale limit h more s asked n b e (made, i, above, news) = (made, good_longer h more s.pin asked made i, above, news_longer h more s.known n news)
holds_longer Full limit h more s asked n b e (made, i, is, next) = (made, good_longer h more s.pin asked made i, is, next)
holds_longer NoMemory limit h more s asked n b e is = is
holds_longer Unkept limit h more s asked n b e (made, i, is) = (made, good_longer h more s.pin asked made i, is)
holds_longer KeeperFull limit h more s asked n b e (made, i, is) = (made, good_longer h more s.pin asked made i, is)

-- there is a version of a number that is in the list
version_at : {X : Type 0} (h : List X) (n : ℕ) → n < length h → (b : X) × (slice_get h n ≡ Some b)
version_at [] n below = absurd (omega arith)
version_at (x ∷ h) zero below = (x, refl)
version_at (x ∷ h) (suc n) below = version_at h n (omega arith)

-- the version that is pinned afterwards is in the list
pub pin_within : (row : Row) (limit : ℕ) (h : List BaseMap) (s : Standing) (asked : Asked) (n : ℕ) → s.pin < length h
    → Holds row limit h s asked n → pin_after row s.pin n < length h
pin_within Pinned limit h s asked n p (is, i) = i.there
pin_within SeenPinned limit h s asked n p (seen, body, is, i, le) = i.there
pin_within Published limit h s asked n p (made, i, there, next, above, room) = slice_get_within h n made there
pin_within Read limit h s asked n p o = p
pin_within Behind limit h s asked n p o = p
pin_within Refused limit h s asked n p o = p
pin_within Stale limit h s asked n p o = p
pin_within Full limit h s asked n p o = p
pin_within NoMemory limit h s asked n p o = p
pin_within Unkept limit h s asked n p o = p
pin_within KeeperFull limit h s asked n p o = p

-- what the client knows afterwards is in the list
pub known_within : (row : Row) (limit : ℕ) (h : List BaseMap) (s : Standing) (item : Item) (n : ℕ) → s.known < length h
    → Holds row limit h s (asked_of item) n → (next s (record { item = item; number = n; row = row })).known < length h
known_within Pinned limit h s item n k (is, i) = (let x = i.there in omega arith)
known_within SeenPinned limit h s item n k (seen, body, is, i, le) = (let x = i.there in omega arith)
known_within Behind limit h s item n k (seen, body, is, i, lt) = (let x = i.there in omega arith)
known_within Published limit h s item n k (made, i, there, step, above, room) = (let x = slice_get_within h n made there in omega arith)
known_within Stale limit h s item n k (made, i, above, news) = (let x = news.there in omega arith)
known_within Read limit h s item n k o = k
known_within Refused limit h s item n k o = k
known_within Full limit h s item n k o = k
known_within NoMemory limit h s item n k o = k
known_within Unkept limit h s item n k o = k
known_within KeeperFull limit h s item n k o = k

pub known_is_there : (limit : ℕ) (h : List BaseMap) (s : Standing) (turns : List Turn) → s.known < length h → Outcomes limit h s turns
    → (standing s turns).known < length h
known_is_there limit h s [] k o = k
known_is_there limit h s (t ∷ turns) k (holds, o) =
    known_is_there limit h (next s t) turns (known_within t.row limit h s t.item t.number k holds) o

pub outcomes_longer : (limit : ℕ) (h more : List BaseMap) (s : Standing) (turns : List Turn) → s.pin < length h
    → Outcomes limit h s turns → Outcomes limit (h ++ more) s turns
outcomes_longer limit h more s [] p o = o
outcomes_longer limit h more s (t ∷ turns) p (holds, o) =
    let b = version_at h s.pin p in (
      holds_longer t.row limit h more s (asked_of t.item) t.number b.0 b.1 holds,
      outcomes_longer limit h more (next s t) turns (pin_within t.row limit h s (asked_of t.item) t.number p holds) o,
    )

pub replies_longer : (limit : ℕ) (h more : List BaseMap) (s : Standing) (count : ℕ) (turns : List Turn) → s.pin < length h
    → Outcomes limit h s turns → replies (h ++ more) s count turns ≡ replies h s count turns
replies_longer limit h more s count [] p o = refl
replies_longer limit h more s count (t ∷ turns) p (holds, o) =
    let b = version_at h s.pin p in
    let one : reply_in (h ++ more) s (suc count) t ≡ reply_in h s (suc count) t =
    ap (λ a. elim a [ None ↦ [] | Some x ↦ sent (next s t).pin (is_final (suc count) t.item) x ]) (answer_longer t.row h more s.pin (asked_of t.item) t.number b.0 b.1) in
    ap (λ xs. xs ++ replies (h ++ more) (next s t) (suc count) turns) one
    ∙ ap (λ xs. reply_in h s (suc count) t ++ xs) (replies_longer limit h more (next s t) (suc count) turns (pin_within t.row limit h s (asked_of t.item) t.number p holds) o)

-- ---- one turn more

pub standing_more : (s : Standing) (turns : List Turn) (t : Turn) → standing s (turns ++ t ∷ []) ≡ next (standing s turns) t
standing_more s [] t = refl
standing_more s (u ∷ turns) t = standing_more (next s u) turns t

pub outcomes_more : (limit : ℕ) (h : List BaseMap) (s : Standing) (turns : List Turn) (t : Turn) → Outcomes limit h s turns
    → Holds t.row limit h (standing s turns) (asked_of t.item) t.number → Outcomes limit h s (turns ++ t ∷ [])
outcomes_more limit h s [] t o holds = (holds, tt)
outcomes_more limit h s (u ∷ turns) t (first, o) holds = (first, outcomes_more limit h (next s u) turns t o holds)

pub replies_more : (h : List BaseMap) (s : Standing) (count : ℕ) (turns : List Turn) (t : Turn)
    → replies h s count (turns ++ t ∷ []) ≡ replies h s count turns ++ reply_in h (standing s turns) (suc (count + length turns)) t
replies_more h s count [] t =
    let e : suc count ≡ suc (count + 0) = omega arith in
    append-nil (reply_in h s (suc count) t) ∙ ap (λ n. reply_in h s n t) e
replies_more h s count (u ∷ turns) t =
    let e : suc (suc count + length turns) ≡ suc (count + length (u ∷ turns)) = omega arith in
    ap (λ xs. reply_in h s (suc count) u ++ xs)
    (replies_more h (next s u) (suc count) turns t ∙ ap (λ n. replies h (next s u) (suc count) turns ++ reply_in h (standing (next s u) turns) n t) e)
    ∙ sym (append_assoc (reply_in h s (suc count) u) (replies h (next s u) (suc count) turns) _)

-- ---- what is noted and counted

pub count_more : {X : Type 0} (p : X → Bool) (xs : List X) (x : X) → count_by p (xs ++ x ∷ []) ≡ count_by p xs + count_by p (x ∷ [])
count_more p xs x = grind (arith, common_steps)

pub sum_more : {X : Type 0} (f : X → ℕ) (xs : List X) (x : X) → sum_by f (xs ++ x ∷ []) ≡ sum_by f xs + f x
sum_more f xs x = sum_by-append f xs (x ∷ []) ∙ ap (λ n. sum_by f xs + n) (sum_by-cons f x [] ∙ add-zero (f x))

pub map_more : {X Y : Type 0} (f : X → Y) (xs : List X) (x : X) → map f (xs ++ x ∷ []) ≡ map f xs ++ f x ∷ []
map_more f [] x = refl
map_more f (y ∷ xs) x = ap (λ ys. f y ∷ ys) (map_more f xs x)
