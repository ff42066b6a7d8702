-- A token in the slot 0 of a row of `-` is one of the two minus signs.
use Rattle.std.proofs.Common.{◌≡◌, ◌==◌, ◌||◌, ℕ, Bool, true, false, List, [], ◌∷◌, refl, subst, Some, None, if◌then◌else◌}
use Rattle.std.specs.Prelude.{nat_eq, codes}
use Rattle.std.specs.Str.{bytes_eq}
use Rattle.std.proofs.lemmas.Bool.{eqb-true, and_parts}
use Rattle.token_model.specs.Kinds.{Tok, Kind, op13, op12, op9}
use Rattle.tree_model.specs.Trees as plain
use Rattle.row_parts.specs.Numbered.{with_token, token_of, tokens_from, first_of}
use Rattle.grammar_model.specs.Trees.{Forest, Part, no_parts, part, taken, inner, missing}
use Rattle.grammar_model.specs.Tables.{What, nothing, token, operand, Last, plain as no_operand, has}
use Rattle.grammar_model.specs.Rows.{Left, no_left, level, named as by_name, row_at, left_takes}
use Rattle.grammar_model.specs.Checks.{all_of}
use Rattle.grammar_model.specs.Keys.{kind_key, spelled_key, key_of, star_key, minus_key, minus_point_key, equal_key, op13_key, op12_key, op9_key}
use Rattle.grammar_model.specs.Grammar.{last_in, left_last, StandsIn, BeginsWith, IsFilled, Follows}
use Rattle.grammar_model.specs.Named.{slot_of, named_parts, named_part}
use Rattle.grammar_model.specs.Ocaml.{rows, Text, grammar, row_name}
use Rattle.typing_rows.specs.CarriedRows.{is_sign}
use Rattle.parsed_rows.proofs.Tabled.{is_minus_row, is_minus_key, sign_fits, spot_sign, then_of}

-- a token by its kind and spelling, where its key is that of a minus sign
sign_by : (k : Kind) (n : List ℕ) → is_minus_key (spelled_key k n) ≡ true → (bytes_eq n (codes "-") || bytes_eq n (codes "-.")) ≡ true
unfolding kind_key
sign_by op12 n h = by (bytes_eq n (codes "-")) (bytes_eq n (codes "-.")) h
  where
    by : (a b : Bool) → is_minus_key (if a then minus_key else (if b then minus_point_key else op12_key)) ≡ true → (a || b) ≡ true
    by true b h = refl
    by false true h = refl
    by false false h = absurd (cc)
sign_by op13 n h = absurd (by (bytes_eq n (codes "*")) h)
  where
    by : (a : Bool) → is_minus_key (if a then star_key else op13_key) ≡ true → ⊥
    by true h = cc
    by false h = cc
sign_by op9 n h = absurd (by (bytes_eq n (codes "=")) h)
  where
    by : (a : Bool) → is_minus_key (if a then equal_key else op9_key) ≡ true → ⊥
    by true h = cc
    by false h = cc
sign_by _ n h = absurd (cc)

sign_of_key : (t : Tok) → is_minus_key (key_of t) ≡ true → is_sign (Some t) ≡ true
unfolding key_of
sign_of_key t h = sign_by t.kind t.name h

-- one of the keys
key_among : (test : ℕ → Bool) (ks : List ℕ) (k : ℕ) → all_of ks test ≡ true → has ks k ≡ true → test k ≡ true
key_among test [] k h m = absurd (cc)
key_among test (x ∷ ks) k h m = by (nat_eq x k) refl m (and_parts (test x) (all_of ks test) h) (key_among test ks k)
  where
    by : (b : Bool) → nat_eq x k ≡ b → (if b then true else has ks k) ≡ true → (test x ≡ true) × (all_of ks test ≡ true) → (all_of ks test ≡ true → has ks k ≡ true → test k ≡ true) → test k ≡ true
    by true e m t go = subst (λ k. test k ≡ true) (eqb-true x k e) t.0
    by false e m t go = go t.1 m

-- a part that is a sign, if it is a token at the spot of the slot 0
abbrev IsSigned : ℕ → Part → Type 0
IsSigned p (taken t) = (slot_of p == 0) ≡ true → is_sign (Some t) ≡ true
IsSigned p (inner t) = Unit {0}
IsSigned p (missing at) = Unit {0}

signed_in : (text : Text) (p : ℕ) (w : What) (c : Part) → sign_fits p w ≡ true → StandsIn (grammar text) w c → IsSigned p c
signed_in text p nothing c fits h = absurd h
signed_in text p (token ks) (taken t) fits h = λ e. sign_of_key t (key_among is_minus_key ks (key_of t) (then_of (slot_of p == 0) (all_of ks is_minus_key) e fits) h)
signed_in text p (token ks) (inner t) fits h = absurd h
signed_in text p (token ks) (missing at) fits h = tt
signed_in text p (operand s n) (taken t) fits h = absurd h
signed_in text p (operand s n) (inner t) fits h = tt
signed_in text p (operand s n) (missing at) fits h = tt

-- a token is no left operand
left_no_token : (l : Left) (s : ℕ) → left_takes rows l s no_operand ≡ true → ⊥
left_no_token no_left s h = cc
left_no_token (level n) s h = cc
left_no_token (by_name m) s h = cc

left_signed : (text : Text) (r p : ℕ) (c : Part) → (grammar text).left_ok r (left_last c) ≡ true → IsSigned p c
left_signed text r p (taken t) h = absurd (left_no_token (row_at rows r).left (row_at rows r).sort h)
left_signed text r p (inner t) h = tt
left_signed text r p (missing at) h = tt

-- the first token in the slot 0 is a sign, where the part in front is one or none
sign_before : (p : ℕ) (c : Part) (ps : plain.Forest) → IsSigned p c → is_sign (first_of (tokens_from 0 ps)) ≡ true → is_sign (first_of (tokens_from 0 (plain.part (slot_of p) (named_part row_name c) ps))) ≡ true
sign_before p c ps s rest = by (slot_of p == 0) refl c s
  where
    by : (b : Bool) → (slot_of p == 0) ≡ b → (c : Part) → IsSigned p c → is_sign (first_of (with_token (if b then token_of (named_part row_name c) else None) (tokens_from 0 ps))) ≡ true
    by true e (taken t) s = s e
    by true e (inner t) s = rest
    by true e (missing q) s = rest
    by false e c s = rest

signs_follow : (text : Text) (r at : ℕ) (last : Last) (f : Forest) → is_minus_row (row_name r) ≡ true → Follows (grammar text) r at last f → is_sign (first_of (tokens_from 0 (named_parts row_name f))) ≡ true
signs_follow text r at last no_parts is h = refl
signs_follow text r at last (part p c f) is h =
    sign_before p c (named_parts row_name f) (signed_in text p ((grammar text).what r p) c (spot_sign text r p is) h.1) (signs_follow text r p (last_in ((grammar text).what r p) c) f is h.3)

-- the first token in the slot 0 of a row of `-` is a sign, where there is one
pub signed : (text : Text) (r : ℕ) (f : Forest) → is_minus_row (row_name r) ≡ true → IsFilled (grammar text) r f → is_sign (first_of (tokens_from 0 (named_parts row_name f))) ≡ true
signed text r no_parts is h = refl
signed text r (part p c f) is h =
    sign_before p c (named_parts row_name f) (begins ((grammar text).has_left r) refl h.0) (signs_follow text r p (last_in ((grammar text).what r p) c) f is h.2)
  where
    begins : (b : Bool) → (grammar text).has_left r ≡ b → BeginsWith (grammar text) r b p c → IsSigned p c
    begins true e h = left_signed text r p c h.1
    begins false e h = signed_in text p ((grammar text).what r p) c (spot_sign text r p is) h.1
