-- The places at which the chunks begin, and what a change of the chunks means for them.
use Rattle.std.proofs.Common.{◌≡◌, ⊎_elim, ◌⊎◌, inl, inr, ℕ, zero, suc, add-one, ◌+◌, ◌-◌, ◌<◌, ◌≤◌, ◌^◌, List, [], ◌∷◌, ◌++◌, length, map, take, drop, set, get_or, All, refl, sym, ap, ◌∙◌, arith}
use Rattle.std.specs.List.{concat, insert, remove}
use Rattle.std.proofs.lemmas.List.{append-nil, drop_all, get_or-drop, length-append, length-drop, length-map, length-take-le, take_all, take_rest}
use borrow.Rule.Slice.PartMut.{put_mid}
use Rattle.std.proofs.lemmas.Bool.{cases_lt}
use Rattle.chunked_row.specs.Chunks.{starts_from, IsSpot}
use Rattle.chunked_row.proofs.Joined.{joined_before, joined_more}

pub starts_length : (n : ℕ) (xss : List (List ℕ)) → length (starts_from n xss) ≡ length xss
unfolding starts_from
starts_length n [] = refl
starts_length n (x ∷ xss) = ap suc (starts_length (n + length x) xss)

pub starts_size : (starts : List ℕ) (xss : List (List ℕ)) → starts ≡ starts_from 0 xss → length starts ≡ length xss
starts_size starts xss are = ap length are ∙ starts_length 0 xss

starts_get : (n : ℕ) (xss : List (List ℕ)) (k d : ℕ) → k < length xss → get_or (starts_from n xss) k d ≡ n + length (concat (take k xss))
unfolding starts_from
starts_get n [] k d short = absurd (omega arith)
starts_get n (x ∷ xss) zero d short = omega arith
starts_get n (x ∷ xss) (suc k) d short = omega (arith, starts_get (n + length x) xss k d (omega arith), length-append x (concat (take k xss)))

-- a chunk begins behind the numbers of those before it
pub start_at : (starts : List ℕ) (xss : List (List ℕ)) (k d : ℕ) → starts ≡ starts_from 0 xss → k < length xss → get_or starts k d ≡ length (concat (take k xss))
start_at starts xss k d are short = omega (arith, ap (λ (zs : List ℕ). get_or zs k d) are, starts_get 0 xss k d short)

-- ---- the chunk of a place

module _ (starts : List ℕ) (xss : List (List ℕ)) (place k start : ℕ) (are : starts ≡ starts_from 0 xss) (short : k < length xss) (begun : 0 < k → get_or starts k 0 < place) (is : start ≡ get_or starts k start) where
  begins : start ≡ length (concat (take k xss))
  begins = is ∙ start_at starts xss k start are short

  -- the chunk begins before the place, or both are 0
  begins_before : (0 < place) ⊎ (place ≤ 0) → (start < place) ⊎ ((start ≡ 0) × (place ≡ 0))
  begins_before sign = ⊎_elim later first (cases_lt 0 k)
    where
      later : 0 < k → (start < place) ⊎ ((start ≡ 0) × (place ≡ 0))
      later l = inl (omega (arith, begun l, start_at starts xss k 0 are short, begins))

      first : k ≤ 0 → (start < place) ⊎ ((start ≡ 0) × (place ≡ 0))
      first le =
          let none : k ≡ 0 = omega arith in
          let zero_start : start ≡ 0 = begins ∙ ap (λ j. length (concat (take j xss))) none in
          ⊎_elim (λ some. inl (omega (arith, zero_start, some))) (λ nothing. inr (zero_start, omega arith)) sign

  pub start_low : start ≤ place
  start_low = ⊎_elim (λ l. omega arith) (λ both. omega (arith, both.0, both.1)) (begins_before (cases_lt 0 place))

  -- the spot of a place
  pub spot_found : (k + 1 < length starts → place ≤ get_or starts (k + 1) 0) → place ≤ length (concat xss) → IsSpot xss place (record { chunk = k; index = place - start })
  spot_found next within = record {
    chunk = short;
    index = ⊎_elim inner last (cases_lt (k + 1) (length xss));
    before = omega (arith, begins, start_low);
    behind = λ some. ⊎_elim (λ l. omega arith) (λ both. absurd (omega (arith, both.1))) (begins_before (cases_lt 0 place));
  }
    where
      inner : k + 1 < length xss → place - start ≤ length (get_or xss k [])
      inner l = omega (arith, next (omega (arith, l, starts_size starts xss are)), start_at starts xss (k + 1) 0 are l, joined_more xss k short, begins)

      last : length xss ≤ k + 1 → place - start ≤ length (get_or xss k [])
      last le =
          let whole : length (concat (take (k + 1) xss)) ≡ length (concat xss) = ap (λ zs. length (concat zs)) (take_all (k + 1) xss le) in
          omega (arith, whole, joined_more xss k short, begins, within)

-- ---- a number more or less in a chunk

starts_up : (n : ℕ) (xss : List (List ℕ)) → starts_from (n + 1) xss ≡ map (λ s. s + 1) (starts_from n xss)
unfolding starts_from
starts_up n [] = refl
starts_up n (x ∷ xss) =
    let there : (n + 1) + length x ≡ (n + length x) + 1 = omega arith in
    ap (λ zs. (n + 1) ∷ zs) (ap (λ m. starts_from m xss) there ∙ starts_up (n + length x) xss)

starts_down : (n : ℕ) (xss : List (List ℕ)) → starts_from n xss ≡ map (λ s. s - 1) (starts_from (n + 1) xss)
unfolding starts_from
starts_down n [] = refl
starts_down n (x ∷ xss) =
    let here : n ≡ (n + 1) - 1 = omega arith in
    let there : (n + length x) + 1 ≡ (n + 1) + length x = omega arith in
    ap (λ m. m ∷ starts_from (n + length x) xss) here
    ∙ ap (λ zs. ((n + 1) - 1) ∷ zs) (starts_down (n + length x) xss ∙ ap (λ m. map (λ s. s - 1) (starts_from m xss)) there)

raised : (n : ℕ) (xss : List (List ℕ)) (k : ℕ) (ys : List ℕ) → k < length xss → length ys ≡ length (get_or xss k []) + 1
    → starts_from n (set xss k ys) ≡ take (suc k) (starts_from n xss) ++ map (λ s. s + 1) (drop (suc k) (starts_from n xss))
unfolding starts_from
raised n [] k ys short more = absurd (omega arith)
raised n (x ∷ xss) zero ys short more =
    let there : n + length ys ≡ (n + length x) + 1 = omega (arith, more) in
    ap (λ zs. n ∷ zs) (ap (λ m. starts_from m xss) there ∙ starts_up (n + length x) xss)
raised n (x ∷ xss) (suc k) ys short more = ap (λ zs. n ∷ zs) (raised (n + length x) xss k ys (omega arith) more)

lowered : (n : ℕ) (xss : List (List ℕ)) (k : ℕ) (ys : List ℕ) → k < length xss → length (get_or xss k []) ≡ length ys + 1
    → starts_from n (set xss k ys) ≡ take (suc k) (starts_from n xss) ++ map (λ s. s - 1) (drop (suc k) (starts_from n xss))
unfolding starts_from
lowered n [] k ys short less = absurd (omega arith)
lowered n (x ∷ xss) zero ys short less =
    let there : (n + length ys) + 1 ≡ n + length x = omega (arith, less) in
    ap (λ zs. n ∷ zs) (starts_down (n + length ys) xss ∙ ap (λ m. map (λ s. s - 1) (starts_from m xss)) there)
lowered n (x ∷ xss) (suc k) ys short less = ap (λ zs. n ∷ zs) (lowered (n + length x) xss k ys (omega arith) less)

-- the starts behind a chunk that has one number more
pub starts_raised : (starts : List ℕ) (xss : List (List ℕ)) (k : ℕ) (ys : List ℕ) → starts ≡ starts_from 0 xss → k < length xss → length ys ≡ length (get_or xss k []) + 1
    → take (k + 1) starts ++ map (λ s. s + 1) (drop (k + 1) starts) ≡ starts_from 0 (set xss k ys)
starts_raised starts xss k ys are short more =
    ap (λ (zs : List ℕ). take (k + 1) zs ++ map (λ s. s + 1) (drop (k + 1) zs)) are
    ∙ ap (λ j. take j (starts_from 0 xss) ++ map (λ s. s + 1) (drop j (starts_from 0 xss))) (add-one k)
    ∙ sym (raised 0 xss k ys short more)

-- and behind one that has one less
pub starts_lowered : (starts : List ℕ) (xss : List (List ℕ)) (k : ℕ) (ys : List ℕ) → starts ≡ starts_from 0 xss → k < length xss → length (get_or xss k []) ≡ length ys + 1
    → take (k + 1) starts ++ map (λ s. s - 1) (drop (k + 1) starts) ≡ starts_from 0 (set xss k ys)
starts_lowered starts xss k ys are short less =
    ap (λ (zs : List ℕ). take (k + 1) zs ++ map (λ s. s - 1) (drop (k + 1) zs)) are
    ∙ ap (λ j. take j (starts_from 0 xss) ++ map (λ s. s - 1) (drop j (starts_from 0 xss))) (add-one k)
    ∙ sym (lowered 0 xss k ys short less)

-- ---- a chunk more or less

cut_starts : (n : ℕ) (xss : List (List ℕ)) (k : ℕ) (ys zs : List ℕ) → k < length xss → length (get_or xss k []) ≡ length ys + length zs
    → starts_from n (set (insert xss (suc k) zs) k ys) ≡ insert (starts_from n xss) (suc k) ((n + length (concat (take k xss))) + length ys)
unfolding starts_from
cut_starts n [] k ys zs short parts = absurd (omega arith)
cut_starts n (x ∷ xss) zero ys zs short parts =
    let there : (n + length ys) + length zs ≡ n + length x = omega (arith, parts) in
    let here : n + length ys ≡ (n + 0) + length ys = omega arith in
    ap (λ m. n ∷ ((n + length ys) ∷ starts_from m xss)) there
    ∙ ap (λ m. n ∷ (m ∷ starts_from (n + length x) xss)) here
cut_starts n (x ∷ xss) (suc k) ys zs short parts =
    let there : (((n + length x) + length (concat (take k xss))) + length ys) ≡ ((n + length (x ++ concat (take k xss))) + length ys) = omega (arith, length-append x (concat (take k xss))) in
    ap (λ ws. n ∷ ws) (cut_starts (n + length x) xss k ys zs (omega arith) parts ∙ ap (insert (starts_from (n + length x) xss) (suc k)) there)

-- the starts of a chunk that is cut in two
pub starts_cut : (starts : List ℕ) (xss : List (List ℕ)) (k start : ℕ) (ys zs : List ℕ) → starts ≡ starts_from 0 xss → k < length xss → length (get_or xss k []) ≡ length ys + length zs
    → start ≡ length (concat (take k xss)) + length ys → insert starts (k + 1) start ≡ starts_from 0 (set (insert xss (k + 1) zs) k ys)
starts_cut starts xss k start ys zs are short parts at =
    let there : start ≡ (0 + length (concat (take k xss))) + length ys = omega (arith, at) in
    ap (λ (ws : List ℕ). insert ws (k + 1) start) are
    ∙ ap (λ j. insert (starts_from 0 xss) j start) (add-one k)
    ∙ ap (insert (starts_from 0 xss) (suc k)) there
    ∙ sym (cut_starts 0 xss k ys zs short parts)
    ∙ sym (ap (λ j. starts_from 0 (set (insert xss j zs) k ys)) (add-one k))

without : (n : ℕ) (xss : List (List ℕ)) (k : ℕ) → k < length xss → get_or xss k [] ≡ [] → remove (starts_from n xss) k ≡ starts_from n (remove xss k)
unfolding starts_from
without n [] k short none = absurd (omega arith)
without n (x ∷ xss) zero short none =
    let there : n + length x ≡ n = omega (arith, ap length none) in
    ap (λ m. starts_from m xss) there
without n (x ∷ xss) (suc k) short none = ap (λ zs. n ∷ zs) (without (n + length x) xss k (omega arith) none)

-- the starts without that of an empty chunk
pub starts_without : (starts : List ℕ) (xss : List (List ℕ)) (k : ℕ) → starts ≡ starts_from 0 xss → k < length xss → get_or xss k [] ≡ [] → remove starts k ≡ starts_from 0 (remove xss k)
starts_without starts xss k are short none = ap (λ (zs : List ℕ). remove zs k) are ∙ without 0 xss k short none

-- ---- a part of a row

-- the items from one on are changed in place, through a slice of the vector
pub changed_from : (f : ℕ → ℕ) (items xs ys : List ℕ) (a size : ℕ) → xs ≡ items → size ≡ length items → a ≤ length items → ys ≡ map f (take (length xs - a) (drop a xs))
    → take size (put_mid a (length xs - a) xs ys ++ drop (length (put_mid a (length xs - a) xs ys)) items) ≡ take a items ++ map f (drop a items)
changed_from f items xs ys a size same whole within mapped =
    let k = length xs - a in
    let new = put_mid a k xs ys in
    let rest : length (drop a xs) ≤ k = omega (arith, length-drop a xs) in
    let behind = drop_all k (drop a xs) rest in
    let part = mapped ∙ ap (map f) (take_rest xs a) in
    let parts : new ≡ take a items ++ map f (drop a items)
    = ap (λ zs. take a xs ++ (ys ++ zs)) behind ∙ ap (λ zs. take a xs ++ zs) (append-nil ys ∙ part) ∙ ap (λ zs. take a zs ++ map f (drop a zs)) same in
    let size_new : length new ≡ length items = omega (arith, ap length parts, length-append (take a items) (map f (drop a items)), length-take-le a items within, length-map (drop a items) f, length-drop a items) in
    ap (λ zs. take size (new ++ zs)) (drop_all (length new) items (omega (arith, size_new)))
    ∙ ap (take size) (append-nil new) ∙ take_all size new (omega (arith, size_new, whole)) ∙ parts

-- ---- bounds

-- no chunk begins beyond the last number
pub starts_few : (starts : List ℕ) (xss : List (List ℕ)) (k : ℕ) → starts ≡ starts_from 0 xss → length (concat xss) + 1 < 2 ^ 64 → All (λ s. s + 1 < 2 ^ 64) (drop (k + 1) starts)
starts_few starts xss k are few i d short =
    let size = starts_size starts xss are in
    let within : (k + 1) + i < length xss = omega (arith, short, size, length-drop (k + 1) starts) in
    omega (arith, get_or-drop (k + 1) starts i d, start_at starts xss ((k + 1) + i) d are within, joined_before xss ((k + 1) + i), few)

before_more : (xss : List (List ℕ)) (j i : ℕ) → length (concat (take j xss)) ≤ length (concat (take (j + i) xss))
before_more xss zero i = omega arith
before_more [] (suc j) i = omega arith
before_more (x ∷ xss) (suc j) i =
    let next : suc j + i ≡ suc (j + i) = omega arith in
    omega (arith, ap (λ n. length (concat (take n (x ∷ xss)))) next, before_more xss j i, length-append x (concat (take j xss)), length-append x (concat (take (j + i) xss)))

-- and what is behind a chunk with a number begins behind it
pub starts_some : (starts : List ℕ) (xss : List (List ℕ)) (k : ℕ) → starts ≡ starts_from 0 xss → k < length xss → 0 < length (get_or xss k []) → All (λ s. 0 < s) (drop (k + 1) starts)
starts_some starts xss k are short some i d less =
    let size = starts_size starts xss are in
    let within : (k + 1) + i < length xss = omega (arith, less, size, length-drop (k + 1) starts) in
    omega (arith, get_or-drop (k + 1) starts i d, start_at starts xss ((k + 1) + i) d are within, before_more xss (k + 1) i, joined_more xss k short, some)
