-- A JSON text has no more tokens than bytes, but one, and a value that is read no more parts than its text has tokens.
use Rattle.std.proofs.Common.{◌≡◌, ℕ, zero, suc, ◌+◌, ◌≤◌, Bool, true, false, List, [], ◌∷◌, length, Option, Some, None, option_and_then, refl, subst, arith}
use Rattle.std.specs.Prelude.{⊤}
use Rattle.json.specs.Token.{Token}
use Rattle.json.specs.Lex.{Lexeme, token, comma, colon, Class, quote, backslash, operator, space, other, class, Mode, between, in_word, in_string, in_escape, lex_byte, lex, Place, fresh, after_value, after_comma, after_key, begins_colon, may_begin, may_close, if_allowed, place_token, punctuate, tokens}
use Rattle.json.specs.Json as json
use Rattle.json.specs.Json.{Parse, parse_map, after_end_array, read_key, items_step, items, members_step, members, value_with, value, if_last}
use Rattle.json.proofs.Grammar.{after_end_array-shorter, read_key-shorter}

-- ---- from bytes to tokens

-- a byte begins one lexeme at most
one_byte : (m : Mode) (c : Class) (x : ℕ) (xs : List ℕ) (k : Mode → List Lexeme) (n : ℕ) → ((next : Mode) → length (k next) ≤ n) → length (lex_byte m c x xs k) ≤ suc n
one_byte between quote x xs k n h = omega (arith, h in_string)
one_byte between backslash x xs k n h = omega (arith, h in_word)
one_byte between operator x xs k n h = omega (arith, h between)
one_byte between space x xs k n h = omega (arith, h between)
one_byte between other x xs k n h = omega (arith, h in_word)
one_byte in_word quote x xs k n h = omega (arith, h in_word)
one_byte in_word backslash x xs k n h = omega (arith, h in_word)
one_byte in_word operator x xs k n h = omega (arith, h between)
one_byte in_word space x xs k n h = omega (arith, h between)
one_byte in_word other x xs k n h = omega (arith, h in_word)
one_byte in_string quote x xs k n h = omega (arith, h between)
one_byte in_string backslash x xs k n h = omega (arith, h in_escape)
one_byte in_string operator x xs k n h = omega (arith, h in_string)
one_byte in_string space x xs k n h = omega (arith, h in_string)
one_byte in_string other x xs k n h = omega (arith, h in_string)
one_byte in_escape c x xs k n h = omega (arith, h in_string)

length-lex : (text : List ℕ) (m : Mode) → length (lex m text) ≤ length text
unfolding lex
length-lex [] m = omega arith
length-lex (x ∷ xs) m = one_byte m (class x) x xs (λ next. lex next xs) (length xs) (length-lex xs)

-- a token goes on, or ends all
allowed : (b : Bool) (t : Token) (k : Place → List Token) (next : Place) (n : ℕ) → length (k next) ≤ n → length (if_allowed b t k next) ≤ suc n
allowed true t k next n h = omega arith
allowed false t k next n h = omega arith

one_token : (p : Place) (t : Token) (b : Bool) (k : Place → List Token) (n : ℕ) → ((next : Place) → length (k next) ≤ n) → length (place_token p t b k) ≤ suc n
one_token p Token.begin_object b k n h = allowed (may_begin p) Token.begin_object k fresh n (h fresh)
one_token p Token.end_object b k n h = allowed (may_close p) Token.end_object k after_value n (h after_value)
one_token p Token.begin_array b k n h = allowed (may_begin p) Token.begin_array k fresh n (h fresh)
one_token p Token.end_array b k n h = allowed (may_close p) Token.end_array k after_value n (h after_value)
one_token p (Token.key s) b k n h = omega arith
one_token p (Token.string s) true k n h = allowed (may_begin p) (Token.key s) k after_key n (h after_key)
one_token p (Token.string s) false k n h = allowed (may_begin p) (Token.string s) k after_value n (h after_value)
one_token p (Token.number s) b k n h = allowed (may_begin p) (Token.number s) k after_value n (h after_value)
one_token p (Token.boolean v) b k n h = allowed (may_begin p) (Token.boolean v) k after_value n (h after_value)
one_token p Token.null b k n h = allowed (may_begin p) Token.null k after_value n (h after_value)
one_token p Token.bad b k n h = omega arith

length-punctuate : (ls : List Lexeme) (p : Place) → length (punctuate p ls) ≤ suc (length ls)
unfolding punctuate
length-punctuate [] fresh = omega arith
length-punctuate [] after_value = omega arith
length-punctuate [] after_comma = omega arith
length-punctuate [] after_key = omega arith
length-punctuate (token t ∷ ls) fresh = one_token fresh t (begins_colon ls) (λ next. punctuate next ls) (suc (length ls)) (length-punctuate ls)
length-punctuate (token t ∷ ls) after_value = one_token after_value t (begins_colon ls) (λ next. punctuate next ls) (suc (length ls)) (length-punctuate ls)
length-punctuate (token t ∷ ls) after_comma = one_token after_comma t (begins_colon ls) (λ next. punctuate next ls) (suc (length ls)) (length-punctuate ls)
length-punctuate (token t ∷ ls) after_key = one_token after_key t (begins_colon ls) (λ next. punctuate next ls) (suc (length ls)) (length-punctuate ls)
length-punctuate (comma ∷ ls) fresh = omega arith
length-punctuate (comma ∷ ls) after_value = omega (arith, length-punctuate ls after_comma)
length-punctuate (comma ∷ ls) after_comma = omega arith
length-punctuate (comma ∷ ls) after_key = omega arith
length-punctuate (colon ∷ ls) fresh = omega arith
length-punctuate (colon ∷ ls) after_value = omega arith
length-punctuate (colon ∷ ls) after_comma = omega arith
length-punctuate (colon ∷ ls) after_key = omega (arith, length-punctuate ls fresh)

pub length-tokens : (text : List ℕ) → length (tokens text) ≤ suc (length text)
length-tokens text = omega (arith, length-punctuate (lex between text) fresh, length-lex text between)

-- ---- from tokens to a value

-- how many values it is made of
abbrev mutual
  pub parts : json.Json → ℕ
  parts json.null = 1
  parts (json.boolean b) = 1
  parts (json.number s) = 1
  parts (json.string s) = 1
  parts (json.array js) = suc (item_parts js)
  parts (json.object ms) = suc (member_parts ms)

  pub item_parts : json.Items → ℕ
  item_parts json.no_items = 0
  item_parts (json.item j js) = parts j + item_parts js

  pub member_parts : json.Members → ℕ
  member_parts json.no_members = 0
  member_parts (json.member k j ms) = parts j + member_parts ms

-- What is read has no more parts than tokens were taken.
abbrev Spent : {A : Type 0} → (A → ℕ) → ℕ → Option (A × List Token) → Type 0
Spent f n None = ⊤
Spent f n (Some p) = f p.0 + length p.1 ≤ n

abbrev Spends : {A : Type 0} → (A → ℕ) → Parse A → Type 0
Spends f p = (ts : List Token) → Spent f (length ts) (p ts)

mapped : {A B : Type 0} (f : A → ℕ) (g : B → ℕ) (m n k : ℕ) (h : A → B) → ((a : A) → g (h a) ≡ k + f a) → k + m ≤ n → (o : Option (A × List Token)) → Spent f m o → Spent g n (parse_map h o)
mapped f g m n k h is le None x = tt
mapped f g m n k h is le (Some p) x = omega (arith, is p.0)

and_more : {B : Type 0} (g : B → ℕ) (n : ℕ) (h : json.Json → B → B) → ((j : json.Json) (b : B) → g (h j b) ≡ parts j + g b) → (more : Parse B) → Spends g more
    → (o : Option (json.Json × List Token)) → Spent parts n o → Spent g n (option_and_then (λ q. parse_map (h q.0) (more q.1)) o)
and_more g n h is more spends None x = tt
and_more g n h is more spends (Some q) x = mapped g g (length q.1) n (parts q.0) (h q.0) (is q.0) x (more q.1) (spends q.1)

module _ (p : Parse json.Json) (spends : Spends parts p) where
  item_turn : (more : Parse json.Items) → Spends item_parts more → (ts : List Token) (o : Option (List Token)) → after_end_array ts ≡ o → Spent item_parts (length ts) (items_step p more ts o)
  item_turn more again ts (Some r) e = omega (arith, after_end_array-shorter ts r e)
  item_turn more again ts None e = and_more item_parts (length ts) json.item (λ j b. refl) more again (p ts) (spends ts)

  Spends-items : (n : ℕ) → Spends item_parts (items p n)
  unfolding items
  Spends-items zero ts = tt
  Spends-items (suc n) ts = item_turn (items p n) (Spends-items n) ts (after_end_array ts) refl

  -- fewer tokens serve as well
  fewer : {B : Type 0} (g : B → ℕ) (m n : ℕ) → m ≤ n → (o : Option (B × List Token)) → Spent g m o → Spent g n o
  fewer g m n le None x = tt
  fewer g m n le (Some q) x = omega arith

  member_turn : (more : Parse json.Members) → Spends member_parts more → (ts : List Token) (o : Option (Option (List ℕ) × List Token)) → read_key ts ≡ o
      → Spent member_parts (length ts) (option_and_then (λ q. members_step p more q.0 q.1) o)
  member_turn more again ts None e = tt
  member_turn more again ts (Some (None, s)) e = omega (arith, read_key-shorter ts None s e)
  member_turn more again ts (Some (Some k, s)) e =
      let le : length s ≤ length ts = omega (arith, read_key-shorter ts (Some k) s e) in
      fewer member_parts (length s) (length ts) le (option_and_then (λ q. parse_map (json.member k q.0) (more q.1)) (p s)) (and_more member_parts (length s) (json.member k) (λ j b. refl) more again (p s) (spends s))

  Spends-members : (n : ℕ) → Spends member_parts (members p n)
  unfolding members
  Spends-members zero ts = tt
  Spends-members (suc n) ts = member_turn (members p n) (Spends-members n) ts (read_key ts) refl

one_level : (a : Parse json.Items) (o : Parse json.Members) → Spends item_parts a → Spends member_parts o → Spends parts (value_with a o)
one_level a o p q [] = tt
one_level a o p q (Token.begin_object ∷ ts) = mapped member_parts parts (length ts) (suc (length ts)) 1 json.object (λ ms. omega arith) (omega arith) (o ts) (q ts)
one_level a o p q (Token.end_object ∷ ts) = tt
one_level a o p q (Token.begin_array ∷ ts) = mapped item_parts parts (length ts) (suc (length ts)) 1 json.array (λ js. omega arith) (omega arith) (a ts) (p ts)
one_level a o p q (Token.end_array ∷ ts) = tt
one_level a o p q (Token.key s ∷ ts) = tt
one_level a o p q (Token.string s ∷ ts) = omega arith
one_level a o p q (Token.number s ∷ ts) = omega arith
one_level a o p q (Token.boolean b ∷ ts) = omega arith
one_level a o p q (Token.null ∷ ts) = omega arith
one_level a o p q (Token.bad ∷ ts) = tt

Spends-value : (d : ℕ) → Spends parts (value d)
unfolding value
Spends-value zero = one_level (λ ts. None) (λ ts. None) (λ ts. tt) (λ ts. tt)
Spends-value (suc d) =
    one_level (λ ts. items (value d) (length ts) ts) (λ ts. members (value d) (length ts) ts) (λ ts. Spends-items (value d) (Spends-value d) (length ts) ts) (λ ts. Spends-members (value d) (Spends-value d) (length ts) ts)

-- the value that is all of the tokens
pub parts_read : (d : ℕ) (ts : List Token) (j : json.Json) → option_and_then (λ p. if_last p.0 p.1) (value d ts) ≡ Some j → parts j ≤ length ts
parts_read d ts j e = by_read (value d ts) (Spends-value d ts) e
  where
    by_read : (o : Option (json.Json × List Token)) → Spent parts (length ts) o → option_and_then (λ p. if_last p.0 p.1) o ≡ Some j → parts j ≤ length ts
    by_read None x e = absurd cc
    by_read (Some (i, [])) x e = let same : i ≡ j = cc in subst (λ k. parts k ≤ length ts) same (omega arith)
    by_read (Some (i, t ∷ r)) x e = absurd cc
