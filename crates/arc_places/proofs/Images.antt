-- Images of numbers by lists, and of a list and its inverse.
use Rattle.std.proofs.Common.{◌≡◌, ◌≢◌, ◌∙◌, ℕ, zero, suc, ◌<◌, ◌≤◌, nat_lt, eqb, cond, List, [], ◌∷◌, ◌++◌, length, get_or, set, map, refl, sym, ap, subst, subst₂, arith}
use Rattle.std.proofs.lemmas.Bool.{eqb-true, eqb-false, eq-eqb, ltb-true, ltb-false, cond-true, cond-false}
use Rattle.std.proofs.lemmas.List.{get_or_default, get_or_past, get_or-set_same, get_or-set_other}
use Rattle.std.proofs.Math.Seq.{lt-length-set}
use Rattle.face_cuts.proofs.Cases.{by_test, not_held}
use Rattle.arc_places.specs.Bodies.{AreInverse, exchanged, image}

-- past the end of a list
pub image_past : (numbers : List ℕ) (i : ℕ) → length numbers ≤ i → image numbers i ≡ i
image_past numbers i le = get_or_past numbers i i le

-- one number more, at its own place
get_more : (numbers : List ℕ) (i d n : ℕ) → (i ≡ length numbers → n ≡ d) → get_or (numbers ++ n ∷ []) i d ≡ get_or numbers i d
get_more [] zero d n last = last refl
get_more [] (suc i) d n last = refl
get_more (m ∷ numbers) zero d n last = refl
get_more (m ∷ numbers) (suc i) d n last = get_more numbers i d n (λ e. last (ap suc e))

pub image_more : (numbers : List ℕ) (n i : ℕ) → n ≡ length numbers → image (numbers ++ n ∷ []) i ≡ image numbers i
image_more numbers n i e = get_more numbers i i n (λ l. e ∙ sym l)

-- no list changes no number
pub images_none : (numbers : List ℕ) → map (image []) numbers ≡ numbers
images_none [] = refl
images_none (n ∷ numbers) = ap (λ (rest : List ℕ). n ∷ rest) (images_none numbers)

-- where one number is put in place of another one
abbrev pub put : (ℕ → ℕ) → ℕ → ℕ → ℕ → ℕ
put f k v x = cond (eqb x k) v (f x)

put_here : (f : ℕ → ℕ) (k v x : ℕ) → x ≡ k → put f k v x ≡ v
put_here f k v x e = cond-true (eqb x k) v (f x) (eq-eqb x k e)

put_other : (f : ℕ → ℕ) (k v x : ℕ) → x ≢ k → put f k v x ≡ f x
put_other f k v x ne = cond-false (eqb x k) v (f x) (not_held (eqb x k) (λ e. ne (eqb-true x k e)))

pub image_set : (numbers : List ℕ) (k v x : ℕ) → k < length numbers → image (set numbers k v) x ≡ put (image numbers) k v x
image_set numbers k v x lt =
    by_test (eqb x k)
    (λ t. subst (λ (m : ℕ). get_or (set numbers k v) m x ≡ v) (sym (eqb-true x k t)) (get_or-set_same numbers k v x lt) ∙ sym (put_here (image numbers) k v x (eqb-true x k t)))
    (λ f. get_or-set_other numbers k x v x (eqb-false x k f) ∙ sym (put_other (image numbers) k v x (eqb-false x k f)))

-- ---- two functions of which each undoes the other one

module _ (s b : ℕ → ℕ) (undone : (x : ℕ) → s (b x) ≡ x) (again : (y : ℕ) → b (s y) ≡ y) (i j : ℕ) where
  abbrev bodies_after : ℕ → ℕ
  bodies_after x = put (put b i (b j)) j (b i) x

  abbrev slots_after : ℕ → ℕ
  slots_after y = put (put s (b j) i) (b i) j y

  -- a number is the second one of two, or else the first one, or none of them
  cases : {P : Type 0} (x k m : ℕ) → (x ≡ m → P) → (x ≢ m → x ≡ k → P) → (x ≢ m → x ≢ k → P) → P
  cases x k m second first none =
      by_test (eqb x m)
      (λ t. second (eqb-true x m t))
      (λ f. by_test (eqb x k) (λ t. first (eqb-false x m f) (eqb-true x k t)) (λ g. none (eqb-false x m f) (eqb-false x k g)))

  one_to_one : (x y : ℕ) → b x ≡ b y → x ≡ y
  one_to_one x y e = sym (undone x) ∙ ap s e ∙ undone y

  by_body : (x y : ℕ) → s y ≡ x → y ≡ b x
  by_body x y e = sym (again y) ∙ ap b e

  second_after : (x : ℕ) → x ≡ j → bodies_after x ≡ b i
  second_after x e = put_here (put b i (b j)) j (b i) x e

  first_after : (x : ℕ) → x ≢ j → x ≡ i → bodies_after x ≡ b j
  first_after x ne e = put_other (put b i (b j)) j (b i) x ne ∙ put_here b i (b j) x e

  other_after : (x : ℕ) → x ≢ j → x ≢ i → bodies_after x ≡ b x
  other_after x ne nor = put_other (put b i (b j)) j (b i) x ne ∙ put_other b i (b j) x nor

  slot_of_first : (y : ℕ) → y ≡ b i → slots_after y ≡ j
  slot_of_first y e = put_here (put s (b j) i) (b i) j y e

  slot_of_second : (y : ℕ) → y ≢ b i → y ≡ b j → slots_after y ≡ i
  slot_of_second y ne e = put_other (put s (b j) i) (b i) j y ne ∙ put_here s (b j) i y e

  slot_of_other : (y : ℕ) → y ≢ b i → y ≢ b j → slots_after y ≡ s y
  slot_of_other y ne nor = put_other (put s (b j) i) (b i) j y ne ∙ put_other s (b j) i y nor

  pub undone_after : (x : ℕ) → slots_after (bodies_after x) ≡ x
  undone_after x =
      cases x i j
      (λ e. ap slots_after (second_after x e) ∙ slot_of_first (b i) refl ∙ sym e)
      (λ ne e. ap slots_after (first_after x ne e) ∙ slot_of_second (b j) (λ h. ne (e ∙ sym (one_to_one j i h))) refl ∙ sym e)
      (λ ne nor. ap slots_after (other_after x ne nor) ∙ slot_of_other (b x) (λ h. nor (one_to_one x i h)) (λ h. ne (one_to_one x j h)) ∙ undone x)

  pub again_after : (y : ℕ) → bodies_after (slots_after y) ≡ y
  again_after y =
      cases y (b j) (b i)
      (λ e. ap bodies_after (slot_of_first y e) ∙ second_after j refl ∙ sym e)
      (λ ne e. ap bodies_after (slot_of_second y ne e) ∙ first_after i (λ h. ne (e ∙ ap b (sym h))) refl ∙ sym e)
      (λ ne nor. ap bodies_after (slot_of_other y ne nor) ∙ other_after (s y) (λ h. nor (by_body j y h)) (λ h. ne (by_body i y h)) ∙ again y)

  pub slots_are : (y : ℕ) → slots_after y ≡ exchanged i j (s y)
  slots_are y =
      cases y (b j) (b i)
      (λ e. slot_of_first y e ∙ sym (put_here (λ k. cond (eqb k j) i k) i j (s y) (ap s e ∙ undone i)))
      (λ ne e.
      let at : s y ≡ j = ap s e ∙ undone j in
      slot_of_second y ne e
      ∙ sym (put_other (λ k. cond (eqb k j) i k) i j (s y) (λ h. ne (by_body i y h)) ∙ put_here (λ k. k) j i (s y) at))
      (λ ne nor.
      slot_of_other y ne nor
      ∙ sym (put_other (λ k. cond (eqb k j) i k) i j (s y) (λ h. ne (by_body i y h)) ∙ put_other (λ k. k) j i (s y) (λ h. nor (by_body j y h))))

-- ---- lists that are inverse

-- a body of a slot in the list is in the list
pub body_within : (slots bodies : List ℕ) (i : ℕ) → AreInverse slots bodies → i < length slots → image bodies i < length slots
body_within slots bodies i h lt =
    by_test (nat_lt (image bodies i) (length slots))
    (λ t. ltb-true (image bodies i) (length slots) t)
    (λ f.
    let past = ltb-false (image bodies i) (length slots) f in
    let same : image bodies i ≡ i = sym (image_past slots (image bodies i) past) ∙ h.slot_again i in
    absurd (omega (arith, past, same, lt)))

pub still_inverse : (slots bodies more_slots more_bodies : List ℕ) → ((i : ℕ) → image more_slots i ≡ image slots i) → ((i : ℕ) → image more_bodies i ≡ image bodies i)
    → AreInverse slots bodies → AreInverse more_slots more_bodies
still_inverse slots bodies more_slots more_bodies same alike h = record {
  slot_again = λ i. same (image more_bodies i) ∙ ap (image slots) (alike i) ∙ h.slot_again i;
  body_again = λ b. alike (image more_slots b) ∙ ap (image bodies) (same b) ∙ h.body_again b;
}

-- the bodies of two slots change places
module _ (slots bodies : List ℕ) (h : AreInverse slots bodies) (i j : ℕ) (first : i < length bodies) (second : j < length bodies)
    (first_slot : i < length slots) (second_slot : j < length slots) where
  abbrev s : ℕ → ℕ
  s y = image slots y

  abbrev b : ℕ → ℕ
  b x = image bodies x

  abbrev pub bodies_then : List ℕ
  bodies_then = set (set bodies i (b j)) j (b i)

  abbrev pub slots_then : List ℕ
  slots_then = set (set slots (b j) i) (b i) j

  bodies_image : (x : ℕ) → image bodies_then x ≡ put (put b i (b j)) j (b i) x
  bodies_image x =
      image_set (set bodies i (b j)) j (b i) x (lt-length-set bodies i (b j) second)
      ∙ ap (λ (y : ℕ). cond (eqb x j) (b i) y) (image_set bodies i (b j) x first)

  slots_image : (y : ℕ) → image slots_then y ≡ put (put s (b j) i) (b i) j y
  slots_image y =
      image_set (set slots (b j) i) (b i) j y (lt-length-set slots (b j) i (body_within slots bodies i h first_slot))
      ∙ ap (λ (x : ℕ). cond (eqb y (b i)) j x) (image_set slots (b j) i y (body_within slots bodies j h second_slot))

  pub inverse_then : AreInverse slots_then bodies_then
  inverse_then = record {
    slot_again = λ x. slots_image (image bodies_then x) ∙ ap (λ (y : ℕ). put (put s (b j) i) (b i) j y) (bodies_image x) ∙ undone_after s b h.slot_again h.body_again i j x;
    body_again = λ y. bodies_image (image slots_then y) ∙ ap (λ (x : ℕ). put (put b i (b j)) j (b i) x) (slots_image y) ∙ again_after s b h.slot_again h.body_again i j y;
  }

  pub exchanged_then : (y : ℕ) → image slots_then y ≡ exchanged i j (s y)
  exchanged_then y = slots_image y ∙ slots_are s b h.slot_again h.body_again i j y

-- the bodies of two slots change places, where more numbers stand in the lists than before
pub record AreExchanged (slots slots_then bodies_then : List ℕ) (i j : ℕ) : Type 0 where
  pub inverse : AreInverse slots_then bodies_then
  pub images : (b : ℕ) → image slots_then b ≡ exchanged i j (image slots b)

pub are_exchanged : (slots bodies more_slots more_bodies : List ℕ) (i j one other : ℕ) → AreInverse slots bodies
    → ((k : ℕ) → image more_slots k ≡ image slots k) → ((k : ℕ) → image more_bodies k ≡ image bodies k)
    → i < length more_bodies → j < length more_bodies → i < length more_slots → j < length more_slots
    → one ≡ get_or more_bodies i one → other ≡ get_or more_bodies j other
    → AreExchanged slots (set (set more_slots other i) one j) (set (set more_bodies i other) j one) i j
are_exchanged slots bodies more_slots more_bodies i j one other h same alike first second first_slot second_slot here there =
    let more = still_inverse slots bodies more_slots more_bodies same alike h in
    subst₂ (λ (x y : ℕ). AreExchanged slots (set (set more_slots y i) x j) (set (set more_bodies i y) j x) i j)
    (get_or_default more_bodies i i one first ∙ sym here) (get_or_default more_bodies j j other second ∙ sym there)
    (record {
      inverse = inverse_then more_slots more_bodies more i j first second first_slot second_slot;
      images = λ b. exchanged_then more_slots more_bodies more i j first second first_slot second_slot b ∙ ap (exchanged i j) (same b);
    })

-- the body of a slot is one that is there
pub one_within : (slots bodies more_slots more_bodies : List ℕ) (i one : ℕ) → AreInverse slots bodies
    → ((k : ℕ) → image more_slots k ≡ image slots k) → ((k : ℕ) → image more_bodies k ≡ image bodies k)
    → i < length more_bodies → i < length more_slots → one ≡ get_or more_bodies i one → one < length more_slots
one_within slots bodies more_slots more_bodies i one h same alike first first_slot here =
    subst (λ (x : ℕ). x < length more_slots) (get_or_default more_bodies i i one first ∙ sym here)
    (body_within more_slots more_bodies i (still_inverse slots bodies more_slots more_bodies same alike h) first_slot)
