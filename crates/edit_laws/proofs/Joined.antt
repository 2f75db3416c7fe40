-- Batches that are joined are applied line by line, as they are one after the other.
use Rattle.std.proofs.Common.{◌≡◌, ℕ, ◌==◌, Bool, true, false, List, [], ◌∷◌, ◌++◌, map, Some, Result, Ok, Err, if◌then◌else◌, bytes_eq, refl, sym, ap, ◌∙◌, subst, append_assoc}
use Rattle.std.specs.List.{list_all, concat, slice_split, onto_first}
use Rattle.std.specs.Result.{result_ok}
use Rattle.std.proofs.lemmas.Bool.{and_parts, and_from, eqb-true, false≢true}
use Rattle.std.proofs.lemmas.List.{map-append}
use Rattle.std.proofs.lemmas.List.Splits.{slice_split-cons_yes, slice_split-cons_no}
use Rattle.tgap_model.specs.Base.{BaseMap}
use Rattle.tgap_model.specs.Keeping.{folded}
use Rattle.line_forms.specs.Texts.{rows_of}
use Rattle.line_forms.specs.Words.{Row}
use Rattle.line_forms.specs.Lines.{◌>>=◌, next_number, is_over}
use Rattle.edit_laws.specs.Edits.{apply_line, at_line, edit_rows, edited}
use Rattle.edit_laws.specs.EditLaws.{ends_line, edited_by, AcceptedBatchesEnd, JoinedBatches, JoinedLists, JoinedJournals}
use Rattle.edit_laws.proofs.Cases.{by_test}
use Rattle.edit_laws.proofs.Batches.{line_then}

-- ---- the rows of a text that follows a line feed

abbrev is_feed : ℕ → Bool
is_feed b = b == 10

abbrev is_space : ℕ → Bool
is_space b = b == 32

-- a text has at least one part
some_part : {P : Type 0} (p : ℕ → Bool) (bytes : List ℕ) → ((part : List ℕ) (parts : List (List ℕ)) → slice_split p bytes ≡ part ∷ parts → P) → P
some_part p [] use_it = use_it [] [] refl
some_part p (b ∷ bytes) use_it =
    by_test (p b)
    (λ t. use_it [] (slice_split p bytes) (slice_split-cons_yes p b bytes t))
    (λ t. some_part p bytes (λ part parts e. use_it (b ∷ part) parts (slice_split-cons_no p b bytes t ∙ ap (onto_first b) e)))

parts_joined : (front back : List ℕ) → slice_split is_feed (front ++ 10 ∷ back) ≡ slice_split is_feed front ++ slice_split is_feed back
parts_joined [] back = refl
parts_joined (b ∷ front) back =
    by_test (is_feed b)
    (λ t. slice_split-cons_yes is_feed b (front ++ 10 ∷ back) t ∙ ap (λ parts. [] ∷ parts) (parts_joined front back)
    ∙ sym (ap (λ parts. parts ++ slice_split is_feed back) (slice_split-cons_yes is_feed b front t)))
    (λ t. some_part is_feed front (λ part parts e.
    slice_split-cons_no is_feed b (front ++ 10 ∷ back) t ∙ ap (onto_first b) (parts_joined front back ∙ ap (λ all. all ++ slice_split is_feed back) e)
    ∙ sym (ap (λ all. all ++ slice_split is_feed back) (slice_split-cons_no is_feed b front t ∙ ap (onto_first b) e))))

rows_joined : (front back : List ℕ) → rows_of (front ++ 10 ∷ back) ≡ rows_of front ++ rows_of back
rows_joined front back = ap (map (slice_split is_space)) (parts_joined front back) ∙ map-append (slice_split is_space) (slice_split is_feed front) (slice_split is_feed back)

-- ---- rows that follow others

-- what stands after the last line feed, where it is nothing
abbrev over : Row
over = [] ∷ []

-- the map does not depend on the number of the first line
any_number : (n k : ℕ) (rows : List Row) (m : BaseMap) → result_ok (edit_rows n rows m) ≡ result_ok (edit_rows k rows m)
any_number n k [] m = refl
any_number n k (rest ∷ []) m = at_end (is_over (rest ∷ []))
  where
    at_end : (is_end : Bool) → (let a : Result BaseMap (ℕ × ℕ) = if is_end then Ok m else Err (n, 1) in let b : Result BaseMap (ℕ × ℕ) = if is_end then Ok m else Err (k, 1) in result_ok a ≡ result_ok b)
    at_end true = refl
    at_end false = refl
any_number n k (row ∷ next ∷ rows) m = after (apply_line m row) (any_number (next_number n) (next_number k) (next ∷ rows))
  where
    after : (r : Result BaseMap ℕ)
        → ((e : BaseMap) → result_ok (edit_rows (next_number n) (next ∷ rows) e) ≡ result_ok (edit_rows (next_number k) (next ∷ rows) e))
        → result_ok (at_line n r >>= edit_rows (next_number n) (next ∷ rows)) ≡ result_ok (at_line k r >>= edit_rows (next_number k) (next ∷ rows))
    after (Ok e) later = later e
    after (Err cause) later = refl

-- rows and then others are one list of rows, whatever the number of the first line of the others
abbrev Follow : (n k : ℕ) (rows : List Row) (first : Row) (others : List Row) (m : BaseMap) → Type 0
Follow n k rows first others m =
    result_ok (edit_rows n (rows ++ first ∷ others) m) ≡ result_ok (edit_rows n (rows ++ over ∷ []) m >>= edit_rows k (first ∷ others))

-- one more row before them
row_before : (n k : ℕ) (row next one : Row) (rows more : List Row) (later : List Row) (m : BaseMap)
    → ((e : BaseMap) → result_ok (edit_rows (next_number n) (next ∷ rows) e) ≡ result_ok (edit_rows (next_number n) (one ∷ more) e >>= edit_rows k later))
    → result_ok (edit_rows n (row ∷ next ∷ rows) m) ≡ result_ok (edit_rows n (row ∷ one ∷ more) m >>= edit_rows k later)
row_before n k row next one rows more later m each = after (apply_line m row)
  where
    after : (r : Result BaseMap ℕ)
        → result_ok (at_line n r >>= edit_rows (next_number n) (next ∷ rows))
        ≡ result_ok ((at_line n r >>= edit_rows (next_number n) (one ∷ more)) >>= edit_rows k later)
    after (Ok e) = each e
    after (Err cause) = refl

rows_follow : (n k : ℕ) (rows : List Row) (first : Row) (others : List Row) (m : BaseMap) → Follow n k rows first others m
rows_follow n k [] first others m = any_number n k (first ∷ others) m
rows_follow n k (row ∷ []) first others m =
    row_before n k row first over others [] (first ∷ others) m (rows_follow (next_number n) k [] first others)
rows_follow n k (row ∷ next ∷ rows) first others m =
    row_before n k row next next (rows ++ first ∷ others) (rows ++ over ∷ []) (first ∷ others) m (rows_follow (next_number n) k (next ∷ rows) first others)

-- ---- a batch that ends with its last line

-- it is empty, or something and a line feed
by_end : {P : Type 0} (batch : List ℕ) → ends_line batch ≡ true → (batch ≡ [] → P) → ((front : List ℕ) → batch ≡ front ++ 10 ∷ [] → P) → P
by_end [] ends empty some = empty refl
by_end (b ∷ []) ends empty some = some [] (ap (λ x. x ∷ []) (eqb-true b 10 ends))
by_end (b ∷ c ∷ batch) ends empty some =
    by_end (c ∷ batch) ends (λ none. absurd cc) (λ front e. some (b ∷ front) (ap (λ all. b ∷ all) e))

-- both answers are one where those of what follows are
same_after : (r : Result BaseMap (ℕ × ℕ)) (f g : BaseMap → Result BaseMap (ℕ × ℕ)) → ((e : BaseMap) → result_ok (f e) ≡ result_ok (g e)) → result_ok (r >>= f) ≡ result_ok (r >>= g)
same_after (Ok e) f g each = each e
same_after (Err fault) f g each = refl

joined_behind : (m : BaseMap) (front b : List ℕ) → result_ok (edited m ((front ++ 10 ∷ []) ++ b)) ≡ result_ok (edited m (front ++ 10 ∷ []) >>= λ e. edited e b)
joined_behind m front b =
    some_part is_feed b (λ part parts e.
    let first = slice_split is_space part in
    let others = map (slice_split is_space) parts in
    let rows : rows_of b ≡ first ∷ others = ap (map (slice_split is_space)) e in
    let whole : rows_of ((front ++ 10 ∷ []) ++ b) ≡ rows_of front ++ first ∷ others = ap rows_of (append_assoc front (10 ∷ []) b) ∙ rows_joined front b ∙ ap (λ back. rows_of front ++ back) rows in
    let head : rows_of (front ++ 10 ∷ []) ≡ rows_of front ++ over ∷ [] = rows_joined front [] in
    ap (λ all. result_ok (edit_rows 1 all m)) whole ∙ rows_follow 1 1 (rows_of front) first others m
    ∙ sym (ap (λ all. result_ok (edit_rows 1 all m >>= edit_rows 1 (first ∷ others))) head)
    ∙ sym (ap (λ all. result_ok (edited m (front ++ 10 ∷ []) >>= edit_rows 1 all)) rows))

pub batches_join : JoinedBatches
batches_join m a b ends = by_end a ends
    (λ none. subst (λ (x : List ℕ). result_ok (edited m (x ++ b)) ≡ result_ok (edited m x >>= λ e. edited e b)) (sym none) refl)
    (λ front e. subst (λ (x : List ℕ). result_ok (edited m (x ++ b)) ≡ result_ok (edited m x >>= λ e. edited e b)) (sym e) (joined_behind m front b))

pub lists_join : JoinedLists
lists_join m [] ends = refl
lists_join m (batch ∷ batches) ends =
    let parts = and_parts (ends_line batch) (list_all ends_line batches) ends in
    batches_join m batch (concat batches) parts.0
    ∙ same_after (edited m batch) (λ e. edited e (concat batches)) (λ e. edited_by e batches) (λ e. lists_join e batches parts.1)

-- ---- a batch that is accepted

-- nothing stands after the last line feed of these parts
abbrev last_is_empty : List (List ℕ) → Bool
last_is_empty [] = true
last_is_empty (part ∷ []) = bytes_eq part []
last_is_empty (part ∷ next ∷ parts) = last_is_empty (next ∷ parts)

-- a byte more at the front of parts that do not begin with an empty last one
still_empty : (b c : ℕ) (batch : List ℕ) → last_is_empty (onto_first b (slice_split is_feed (c ∷ batch))) ≡ last_is_empty (slice_split is_feed (c ∷ batch))
still_empty b c batch =
    some_part is_feed batch (λ part parts e.
    by_test (is_feed c)
    (λ t. same_of ([] ∷ part ∷ parts) (slice_split-cons_yes is_feed c batch t ∙ ap (λ all. [] ∷ all) e) refl)
    (λ t. same_of ((c ∷ part) ∷ parts) (slice_split-cons_no is_feed c batch t ∙ ap (onto_first c) e) (longer part parts)))
  where
    same_of : (all : List (List ℕ)) → slice_split is_feed (c ∷ batch) ≡ all → last_is_empty (onto_first b all) ≡ last_is_empty all
        → last_is_empty (onto_first b (slice_split is_feed (c ∷ batch))) ≡ last_is_empty (slice_split is_feed (c ∷ batch))
    same_of all e same = ap (λ x. last_is_empty (onto_first b x)) e ∙ same ∙ sym (ap last_is_empty e)

    longer : (part : List ℕ) (parts : List (List ℕ)) → last_is_empty ((b ∷ c ∷ part) ∷ parts) ≡ last_is_empty ((c ∷ part) ∷ parts)
    longer part [] = refl
    longer part (next ∷ parts) = refl

parts_end : (batch : List ℕ) → last_is_empty (slice_split is_feed batch) ≡ ends_line batch
parts_end [] = refl
parts_end (b ∷ []) =
    by_test (is_feed b)
    (λ t. ap last_is_empty (slice_split-cons_yes is_feed b [] t) ∙ sym t)
    (λ t. ap last_is_empty (slice_split-cons_no is_feed b [] t) ∙ sym t)
parts_end (b ∷ c ∷ batch) =
    by_test (is_feed b)
    (λ t. ap last_is_empty (slice_split-cons_yes is_feed b (c ∷ batch) t)
    ∙ some_part is_feed (c ∷ batch) (λ part parts e. ap (λ all. last_is_empty ([] ∷ all)) e ∙ sym (ap last_is_empty e)) ∙ parts_end (c ∷ batch))
    (λ t. ap last_is_empty (slice_split-cons_no is_feed b (c ∷ batch) t) ∙ still_empty b c batch ∙ parts_end (c ∷ batch))

-- a row that ends a text was read of no byte
over_is_empty : (part : List ℕ) → is_over (slice_split is_space part ∷ []) ≡ true → bytes_eq part [] ≡ true
over_is_empty [] is = refl
over_is_empty (b ∷ part) is =
    some_part is_space part (λ word words e.
    by_test (is_space b)
    (λ t. absurd (false≢true (sym (not_over ([] ∷ word ∷ words) (slice_split-cons_yes is_space b part t ∙ ap (λ all. [] ∷ all) e) refl) ∙ is)))
    (λ t. absurd (false≢true (sym (not_over ((b ∷ word) ∷ words) (slice_split-cons_no is_space b part t ∙ ap (onto_first b) e) (some_word word words)) ∙ is))))
  where
    not_over : (row : Row) → slice_split is_space (b ∷ part) ≡ row → is_over (row ∷ []) ≡ false → is_over (slice_split is_space (b ∷ part) ∷ []) ≡ false
    not_over row e not_one = ap (λ x. is_over (x ∷ [])) e ∙ not_one

    some_word : (word : List ℕ) (words : Row) → is_over (((b ∷ word) ∷ words) ∷ []) ≡ false
    some_word word [] = refl
    some_word word (next ∷ words) = refl

rows_end : (n : ℕ) (parts : List (List ℕ)) (m e : BaseMap) → edit_rows n (map (slice_split is_space) parts) m ≡ Ok e → last_is_empty parts ≡ true
rows_end n [] m e made = refl
rows_end n (part ∷ []) m e made =
    by_test (is_over (slice_split is_space part ∷ []))
    (λ t. over_is_empty part t)
    (λ t. absurd (at_end (is_over (slice_split is_space part ∷ [])) t made))
  where
    at_end : (is_end : Bool) → is_end ≡ false → (let fault : ℕ × ℕ = (n, 1) in let wanted : Result BaseMap (ℕ × ℕ) = Ok e in (if is_end then Ok m else Err fault) ≡ wanted) → ⊥
    at_end true e made = false≢true (sym e)
    at_end false e made = cc
rows_end n (part ∷ next ∷ parts) m e made =
    line_then (apply_line m (slice_split is_space part)) n (edit_rows (next_number n) (map (slice_split is_space) (next ∷ parts))) e made
    (λ d applied rest. rows_end (next_number n) (next ∷ parts) d e rest)

pub batches_end : AcceptedBatchesEnd
batches_end m e batch made = sym (parts_end batch) ∙ rows_end 1 (slice_split is_feed batch) m e made

-- ---- a journal that is joined

-- what is applied after a batch that was accepted
then_of : {P : Type 0} (r : Result BaseMap (ℕ × ℕ)) (later : BaseMap → Result BaseMap (ℕ × ℕ)) (e : BaseMap) → (r >>= later) ≡ Ok e → ((d : BaseMap) → r ≡ Ok d → later d ≡ Ok e → P) → P
then_of (Ok d) later e made use_it = use_it d refl made
then_of (Err fault) later e made use_it = absurd cc

all_end : (m e : BaseMap) (batches : List (List ℕ)) → edited_by m batches ≡ Ok e → list_all ends_line batches ≡ true
all_end m e [] made = refl
all_end m e (batch ∷ batches) made =
    then_of (edited m batch) (λ d. edited_by d batches) e made
    (λ d first later. and_from (ends_line batch) (list_all ends_line batches) (batches_end m d batch first) (all_end d e batches later))

-- a result that is told is the one
told_ok : (r : Result BaseMap (ℕ × ℕ)) (e : BaseMap) → result_ok r ≡ Some e → r ≡ Ok e
told_ok (Ok d) e told = (let same : d ≡ e = cc in ap (λ (x : BaseMap). Ok x) same)
told_ok (Err fault) e told = absurd cc

pub journals_join : JoinedJournals
journals_join m e entries made =
    let batches = folded entries in
    let whole : edited m (concat batches) ≡ Ok e = told_ok (edited m (concat batches)) e (lists_join m batches (all_end m e batches made) ∙ ap result_ok made) in
    (refl, rw whole refl)
