-- How much a JSON value holds: no more than its text, and more than what is in it.
use Rattle.std.proofs.Common.{◌≡◌, ℕ, suc, ◌+◌, ◌<◌, ◌≤◌, Bool, true, false, List, [], ◌∷◌, length, sum_by, Option, Some, None, option_map, option_and_then, Ordering, Less, Equal, Greater, refl, ap, ◌∙◌, subst, arith}
use Rattle.std.specs.Prelude.{⊤, if◌then◌else◌}
use Rattle.std.specs.Ordering.{nat_cmp, match_ordering}
use Rattle.std.specs.Cmp.Lexicographic.{slice_cmp}
use Rattle.std.specs.Str.{is_utf8}
use Rattle.std.proofs.lemmas.List.Sums.{sum_by-cons}
use Rattle.json.specs.Lex.{tokens}
use Rattle.json.specs.Json as json
use Rattle.serde_json.specs.Data.{Data, null, boolean, number, string, array, object, Items, no_items, item, Members, no_members, member, put}
use Rattle.serde_json.specs.Read.{number_of, of_json, of_items, of_members, max_depth, read}
use Rattle.serde_json.specs.Find.{get, get_member}
use Rattle.line_forms.specs.Json.{tree, list_of, items_of, items_at}
use Rattle.topo_read.specs.Sizes.{size, items_size, members_size, count_items, count_positions}
use Rattle.topo_read.proofs.Tokens.{parts, item_parts, member_parts, parts_read, length-tokens}

-- ---- no more than the text

-- there is nothing, or it is at most so much
abbrev AtMost : {A : Type 0} → (A → ℕ) → ℕ → Option A → Type 0
AtMost f n None = ⊤
AtMost f n (Some a) = f a ≤ n

AtMost-map : {A B : Type 0} (f : A → ℕ) (g : B → ℕ) (m n : ℕ) (h : A → B) → ((a : A) → f a ≤ m → g (h a) ≤ n) → (o : Option A) → AtMost f m o → AtMost g n (option_map h o)
AtMost-map f g m n h k None x = tt
AtMost-map f g m n h k (Some a) x = k a x

AtMost-and_then : {A B : Type 0} (f : A → ℕ) (g : B → ℕ) (m n : ℕ) (h : A → Option B) → ((a : A) → f a ≤ m → AtMost g n (h a)) → (o : Option A) → AtMost f m o → AtMost g n (option_and_then h o)
AtMost-and_then f g m n h k None x = tt
AtMost-and_then f g m n h k (Some a) x = k a x

-- anything is at most nothing, where nothing is counted
flat : {A : Type 0} (o : Option A) → AtMost (λ _. 0) 0 o
flat None = tt
flat (Some a) = omega arith

members_size-match_ordering : (o : Ordering) (a b c : Members) (n : ℕ) → members_size a ≤ n → members_size b ≤ n → members_size c ≤ n → members_size (match_ordering o a b c) ≤ n
members_size-match_ordering Less a b c n p q r = p
members_size-match_ordering Equal a b c n p q r = q
members_size-match_ordering Greater a b c n p q r = r

-- one member more, or another one
members_size-put : (k : List ℕ) (d : Data) (ms : Members) → members_size (put k d ms) ≤ size d + members_size ms
members_size-put k d no_members = omega arith
members_size-put k d (member l e ms) =
    members_size-match_ordering (slice_cmp nat_cmp k l) (member k d (member l e ms)) (member l d ms) (member l e (put k d ms)) (size d + members_size (member l e ms)) (omega arith) (omega arith)
    (omega (arith, members_size-put k d ms))

mutual
  size-of_json : (j : json.Json) → AtMost size (parts j) (of_json j)
  size-of_json json.null = omega arith
  size-of_json (json.boolean b) = omega arith
  size-of_json (json.number s) = AtMost-map (λ _. 0) size 0 1 number (λ a x. omega arith) (number_of s) (flat (number_of s))
  size-of_json (json.string s) = omega arith
  size-of_json (json.array js) = AtMost-map items_size size (item_parts js) (suc (item_parts js)) array (λ a x. omega arith) (of_items js) (size-of_items js)
  size-of_json (json.object ms) = AtMost-map members_size size (0 + member_parts ms) (suc (member_parts ms)) object (λ a x. omega arith) (of_members ms no_members) (size-of_members ms no_members 0 (omega arith))

  size-of_items : (js : json.Items) → AtMost items_size (item_parts js) (of_items js)
  size-of_items json.no_items = omega arith
  size-of_items (json.item j js) =
      AtMost-and_then size items_size (parts j) (parts j + item_parts js) (λ d. option_map (item d) (of_items js))
      (λ d x. AtMost-map items_size items_size (item_parts js) (parts j + item_parts js) (item d) (λ ds y. omega arith) (of_items js) (size-of_items js)) (of_json j) (size-of_json j)

  size-of_members : (ms : json.Members) (found : Members) (n : ℕ) → members_size found ≤ n → AtMost members_size (n + member_parts ms) (of_members ms found)
  size-of_members json.no_members found n h = omega arith
  size-of_members (json.member name j ms) found n h =
      AtMost-and_then size members_size (parts j) (n + (parts j + member_parts ms)) (λ d. of_members ms (put name d found))
      (λ d x. more (of_members ms (put name d found)) (size-of_members ms (put name d found) (n + parts j) (omega (arith, members_size-put name d found)))) (of_json j) (size-of_json j)
    where
      more : (o : Option Members) → AtMost members_size ((n + parts j) + member_parts ms) o → AtMost members_size (n + (parts j + member_parts ms)) o
      more None x = tt
      more (Some a) x = omega arith

-- a JSON value holds no more than its text has bytes, and one
pub size_of_tree : (bytes : List ℕ) (d : Data) → tree bytes ≡ Some d → size d ≤ suc (length bytes)
unfolding tree
size_of_tree bytes d e = by_test (is_utf8 bytes) e
  where
    whole : Option json.Json
    whole = option_and_then (λ p. json.if_last p.0 p.1) (json.value max_depth (tokens bytes))

    by_whole : (o : Option json.Json) → whole ≡ o → option_and_then of_json o ≡ Some d → size d ≤ suc (length bytes)
    by_whole None is r = absurd cc
    by_whole (Some j) is r =
        let fits : size d ≤ parts j = subst (AtMost size (parts j)) r (size-of_json j) in
        omega (arith, fits, parts_read max_depth (tokens bytes) j is, length-tokens bytes)

    by_test : (b : Bool) → (if b then read bytes else None) ≡ Some d → size d ≤ suc (length bytes)
    by_test true r = by_whole whole refl r
    by_test false r = absurd cc

-- ---- more than what is in it

-- it holds itself
one_at_least : (d : Data) → 1 ≤ size d
one_at_least null = omega arith
one_at_least (boolean b) = omega arith
one_at_least (number n) = omega arith
one_at_least (string s) = omega arith
one_at_least (array ds) = omega arith
one_at_least (object ms) = omega arith

-- the items of an array
size_of_list : (ds : Items) → sum_by size (list_of ds) ≡ items_size ds
size_of_list no_items = refl
size_of_list (item d ds) = sum_by-cons size d (list_of ds) ∙ ap (λ n. size d + n) (size_of_list ds)

length_of_list : (ds : Items) → length (list_of ds) ≤ items_size ds
length_of_list no_items = omega arith
length_of_list (item d ds) = omega (arith, one_at_least d, length_of_list ds)

size_of_items : (d : Data) (ds : List Data) → items_of d ≡ Some ds → sum_by size ds < size d
size_of_items null ds e = absurd cc
size_of_items (boolean b) ds e = absurd cc
size_of_items (number n) ds e = absurd cc
size_of_items (string s) ds e = absurd cc
size_of_items (array items) ds e =
    let same : list_of items ≡ ds = cc in
    subst (λ (xs : List Data). sum_by size xs < size (array items)) same (omega (arith, size_of_list items))
size_of_items (object ms) ds e = absurd cc

count_of_items : (d : Data) → count_items (items_of d) ≤ size d
count_of_items null = omega arith
count_of_items (boolean b) = omega arith
count_of_items (number n) = omega arith
count_of_items (string s) = omega arith
count_of_items (array items) = omega (arith, length_of_list items)
count_of_items (object ms) = omega arith

-- the positions of arcs
count_of_positions : (ds : List Data) → count_positions ds ≤ sum_by size ds
count_of_positions [] = omega arith
count_of_positions (d ∷ ds) = omega (arith, count_of_items d, count_of_positions ds, sum_by-cons (λ (x : Data). count_items (items_of x)) d ds, sum_by-cons size d ds)

-- a member of an object
by_order : (o : Ordering) (a : Option Data) (e : Data) (n : ℕ) → AtMost size n a → size e ≤ n → AtMost size n (match_ordering o a (Some e) a)
by_order Less a e n p q = p
by_order Equal a e n p q = q
by_order Greater a e n p q = p

size_of_member : (k : List ℕ) (ms : Members) (n : ℕ) → members_size ms ≤ n → AtMost size n (get_member k ms)
size_of_member k no_members n le = tt
size_of_member k (member l d ms) n le = by_order (slice_cmp nat_cmp k l) (get_member k ms) d n (size_of_member k ms n (omega arith)) (omega arith)

size_of_get : (k : List ℕ) (d e : Data) → get k d ≡ Some e → size e < size d
size_of_get k null e is = absurd cc
size_of_get k (boolean b) e is = absurd cc
size_of_get k (number n) e is = absurd cc
size_of_get k (string s) e is = absurd cc
size_of_get k (array ds) e is = absurd cc
size_of_get k (object ms) e is =
    let fits : size e ≤ members_size ms = subst (AtMost size (members_size ms)) is (size_of_member k ms (members_size ms) (omega arith)) in
    omega arith

-- the positions of the arcs that are a member
pub few_positions : (k : List ℕ) (d : Data) (arcs : List Data) → items_at k d ≡ Some arcs → count_positions arcs < size d
few_positions k d arcs e = by_get (get k d) refl e
  where
    by_get : (o : Option Data) → get k d ≡ o → option_and_then items_of o ≡ Some arcs → count_positions arcs < size d
    by_get None is r = absurd cc
    by_get (Some a) is r = omega (arith, count_of_positions arcs, size_of_items a arcs r, size_of_get k d a is)
