-- The text of a value has no byte below 32, so no line feed.
use Rattle.std.proofs.Common.{◌≡◌, ◌≢◌, ℕ, ◌/◌, ◌%◌, ◌^◌, ◌<◌, ◌≤◌, ◌==◌, ◌||◌, Bool, true, false, cond, List, [], ◌∷◌, ◌++◌, Contains, length, decimal, refl, arith}
use Rattle.std.specs.Prelude.{nat_lt, nat_le, flat_map, slice_index_or}
use Rattle.std.specs.List.{All, list_all}
use Rattle.std.proofs.lemmas.List.Sums.{AllPass-from_list_all}
use Rattle.std.specs.Char.{digit_char}
use Rattle.std.proofs.lemmas.Bool.Decides.{nat_tests}
use Rattle.std.proofs.lemmas.Fmt.{decimal_is_IsNumeral}
use Rattle.std.proofs.lemmas.List.Elements.{All-nil, All-cons, All-append, All-from_get_or}
use Rattle.std.proofs.lemmas.Str.Parse.{digit_at}
use Rattle.json.specs.Print.{escape_letter, escape_byte, escape, quoted}
use Rattle.serde_json.specs.Data.{Num, unsigned, negative, float, Data, null, boolean, number, string, array, object, Items, no_items, item, Members, no_members, member}
use Rattle.serde_json.specs.Written.{compact_text, items_text, members_text, comma_if}
use Rattle.reply_json.specs.Fits.{NumbersFit, ItemsFit, MembersFit}

abbrev Visible : List ℕ → Type 0
Visible bytes = All (λ b. 32 ≤ b) bytes

visible_letter : (x : ℕ) → nat_lt 0 (escape_letter x) ≡ true → 32 ≤ escape_letter x
visible_letter x e = grind (arith, nat_tests)

visible_digit : (d : ℕ) → 32 ≤ digit_char d
visible_digit d = grind (arith, nat_tests)

at_least : (b : ℕ) → nat_le 32 b ≡ true → 32 ≤ b
at_least b e = grind (arith, nat_tests)

one_byte : (b : ℕ) → 32 ≤ b → Visible (b ∷ [])
one_byte b h = All-cons (λ b. 32 ≤ b) b [] h (All-nil _)

more : (b : ℕ) (bytes : List ℕ) → 32 ≤ b → Visible bytes → Visible (b ∷ bytes)
more b bytes h rest = All-cons (λ b. 32 ≤ b) b bytes h rest

both : (xs ys : List ℕ) → Visible xs → Visible ys → Visible (xs ++ ys)
both xs ys h k = All-append (λ b. 32 ≤ b) xs ys h k

either : (test : Bool) (xs ys : List ℕ) → (test ≡ true → Visible xs) → (test ≡ false → Visible ys)
    → Visible (cond test xs ys)
either true xs ys h k = h refl
either false xs ys h k = k refl

not_below : (x : ℕ) → nat_lt x 32 ≡ false → 32 ≤ x
not_below x e = grind (arith, nat_tests)

-- the two digits of a byte that has no letter
abbrev hex : ℕ → List ℕ
hex x = digit_char (x / 16) ∷ (digit_char (x % 16) ∷ [])

visible_code : (x : ℕ) → Visible (92 ∷ (117 ∷ (48 ∷ (48 ∷ hex x))))
visible_code x =
    more 92 (117 ∷ (48 ∷ (48 ∷ hex x))) (omega arith)
    (more 117 (48 ∷ (48 ∷ hex x)) (omega arith)
    (more 48 (48 ∷ hex x) (omega arith)
    (more 48 (hex x) (omega arith)
    (more (digit_char (x / 16)) (digit_char (x % 16) ∷ []) (visible_digit (x / 16))
    (one_byte (digit_char (x % 16)) (visible_digit (x % 16)))))))

visible_escape : (x : ℕ) → Visible (escape_byte x)
unfolding escape_byte
visible_escape x =
    either (nat_lt 0 (escape_letter x)) (92 ∷ escape_letter x ∷ [])
    (cond (nat_lt x 32) (92 ∷ (117 ∷ (48 ∷ (48 ∷ hex x)))) (x ∷ []))
    (λ e. more 92 (escape_letter x ∷ []) (omega arith)
    (one_byte (escape_letter x) (visible_letter x e)))
    (λ _. either (nat_lt x 32) (92 ∷ (117 ∷ (48 ∷ (48 ∷ hex x)))) (x ∷ []) (λ _. visible_code x)
    (λ e. one_byte x (not_below x e)))

visible_escapes : (s : List ℕ) → Visible (escape s)
visible_escapes [] = All-nil _
visible_escapes (x ∷ s) = both (escape_byte x) (escape s) (visible_escape x) (visible_escapes s)

visible_quoted : (s : List ℕ) → Visible (quoted s)
visible_quoted s = more 34 (escape s ++ 34 ∷ []) (omega arith)
    (both (escape s) (34 ∷ []) (visible_escapes s) (one_byte 34 (omega arith)))

visible_comma : (later : Bool) → Visible (comma_if later)
visible_comma true = one_byte 44 (omega arith)
visible_comma false = All-nil _

visible_number : (n : ℕ) → n < 2 ^ 64 → Visible (decimal n)
visible_number n fits = All-from_get_or (λ b. 32 ≤ b) (decimal n) 0 (λ i within.
    let digit = digit_at (decimal n) i (decimal_is_IsNumeral n fits).0.1 within in omega arith)

-- a word of bytes that are all 32 or more, by a look at each
word_visible : (bytes : List ℕ) → list_all (λ b. nat_le 32 b) bytes ≡ true → Visible bytes
word_visible bytes e =
    λ k d within. at_least (slice_index_or bytes k d)
    (AllPass-from_list_all (λ b. nat_le 32 b) bytes e k d within)

mutual
  pub visible : (d : Data) → NumbersFit d → Visible (compact_text d)
  visible null fits = word_visible (110 ∷ (117 ∷ (108 ∷ (108 ∷ [])))) refl
  visible (boolean true) fits = word_visible (116 ∷ (114 ∷ (117 ∷ (101 ∷ [])))) refl
  visible (boolean false) fits = word_visible (102 ∷ (97 ∷ (108 ∷ (115 ∷ (101 ∷ []))))) refl
  visible (number (unsigned n)) fits = visible_number n fits
  visible (number (negative z)) fits = absurd fits
  visible (number (float x)) fits = absurd fits
  visible (string s) fits = visible_quoted s
  visible (array ds) fits =
      more 91 (items_text false ds) (omega arith) (visible_items false ds fits)
  visible (object ms) fits =
      more 123 (members_text false ms) (omega arith) (visible_members false ms fits)

  visible_items : (later : Bool) (ds : Items) → ItemsFit ds → Visible (items_text later ds)
  visible_items later no_items fits = one_byte 93 (omega arith)
  visible_items later (item d ds) fits =
      both (comma_if later) (compact_text d ++ items_text true ds) (visible_comma later)
      (both (compact_text d) (items_text true ds) (visible d fits.0) (visible_items true ds fits.1))

  visible_members : (later : Bool) (ms : Members) → MembersFit ms → Visible (members_text later ms)
  visible_members later no_members fits = one_byte 125 (omega arith)
  visible_members later (member k d ms) fits =
      both (comma_if later) (quoted k ++ 58 ∷ (compact_text d ++ members_text true ms))
      (visible_comma later)
      (both (quoted k) (58 ∷ (compact_text d ++ members_text true ms)) (visible_quoted k)
      (more 58 (compact_text d ++ members_text true ms) (omega arith)
      (both (compact_text d) (members_text true ms) (visible d fits.0)
      (visible_members true ms fits.1))))

pub one_line : (d : Data) → NumbersFit d → ¬ (Contains (compact_text d) 10)
one_line d fits has = let seen = visible d fits has.0 10 has.1 in omega (arith, has.2)
