-- Where names are among tokens, and what a map keeps of it.
use Rattle.std.proofs.Common.{◌≡◌, ◌∙◌, ◌+◌, ◌||◌, ℕ, zero, suc, Bool, true, false, List, [], ◌∷◌, ◌++◌, length, take, drop, Option, Some, None, option_map, refl, sym, ap, subst, if◌then◌else◌}
use Rattle.std.proofs.lemmas.List.{map-append, take-append-drop}
use Rattle.std.proofs.lemmas.Slice.Eq.{bytes_eq-Decides}
use denote.Ref.{Bor}
use Rattle.std.specs.Prelude.{is_some, slice_get, Result, Ok, Err, OnOk, OnErr}
use Rattle.std.specs.Option.{option_or}
use Rattle.std.specs.HashMap.{HashMap}
use Rattle.std.specs.Str.{bytes_eq}
use Rattle.token_model.specs.Kinds.{Tok}
use Rattle.signature_model.specs.Declarations.{Name}
use Rattle.syntax_tree.specs.View.{tok_of}
use Rattle.syntax_tree.specs.declared.tree.Token.{Token}
use Rattle.use_typing.specs.Labels.{is_named_in, toks_of}
use Rattle.use_typing.specs.Mentions.{HasPlaces, found_at, named_at, place_in, place_of}

-- a name that has a place is among the tokens, and one that has none isn't
named_place : (n : Name) (ts : List Tok) → is_named_in n ts ≡ is_some (place_of n ts)
named_place n [] = refl
named_place n (t ∷ ts) = by (bytes_eq t.name n) (place_of n ts) (named_place n ts)
  where
    by : (b : Bool) (o : Option ℕ) → is_named_in n ts ≡ is_some o → (b || is_named_in n ts) ≡ is_some (if b then Some 0 else option_map (λ i. suc i) o)
    by true o h = refl
    by false None h = h
    by false (Some i) h = h

-- the token at the place of a name has it
place_read : (n : Name) (ts : List Tok) (i : ℕ) → place_of n ts ≡ Some i → named_at n (slice_get ts i) ≡ true
place_read n [] i e = cc
place_read n (t ∷ ts) i e = by (bytes_eq t.name n) refl (place_of n ts) refl e (place_read n ts)
  where
    by : (b : Bool) → bytes_eq t.name n ≡ b → (o : Option ℕ) → place_of n ts ≡ o → (if b then Some 0 else option_map (λ i. suc i) o) ≡ Some i
        → ((j : ℕ) → place_of n ts ≡ Some j → named_at n (slice_get ts j) ≡ true) → named_at n (slice_get (t ∷ ts) i) ≡ true
    by true is o po q later = let z : 0 ≡ i = cc in subst (λ k. named_at n (slice_get (t ∷ ts) k) ≡ true) z is
    by false is None po q later = cc
    by false is (Some j) po q later = let z : suc j ≡ i = cc in subst (λ k. named_at n (slice_get (t ∷ ts) k) ≡ true) z (later j po)

either : (a b : Bool) → b ≡ true → (a || b) ≡ true
either true b h = refl
either false b h = h

-- a name that a token at some place has is among the tokens
place_named : (n : Name) (ts : List Tok) (i : ℕ) → named_at n (slice_get ts i) ≡ true → is_named_in n ts ≡ true
place_named n [] i h = cc
place_named n (t ∷ ts) zero h = ap (λ b. b || is_named_in n ts) h
place_named n (t ∷ ts) (suc i) h = either (bytes_eq t.name n) (is_named_in n ts) (place_named n ts i h)

-- the place that is known of a name tells whether it is among the tokens
pub named_by : (n : Name) (ts : List Tok) (g : Option ℕ) → ((i : ℕ) → place_of n ts ≡ Some i → g ≡ Some i) → found_at n ts g ≡ is_named_in n ts
named_by n ts g h = by (place_of n ts) refl g h
  where
    absent : (i : ℕ) (b : Bool) → named_at n (slice_get ts i) ≡ b → is_named_in n ts ≡ false → named_at n (slice_get ts i) ≡ is_named_in n ts
    absent i true is lacks = is ∙ sym (place_named n ts i is)
    absent i false is lacks = is ∙ sym lacks

    by : (o : Option ℕ) → place_of n ts ≡ o → (g : Option ℕ) → ((i : ℕ) → o ≡ Some i → g ≡ Some i) → found_at n ts g ≡ is_named_in n ts
    by (Some i) po g h = ap (found_at n ts) (h i refl) ∙ place_read n ts i po ∙ sym (named_place n ts ∙ ap is_some po)
    by None po None h = sym (named_place n ts ∙ ap is_some po)
    by None po (Some i) h = absent i (named_at n (slice_get ts i)) refl (named_place n ts ∙ ap is_some po)

-- names keep their places where more tokens come behind
place_append : (n : Name) (ts us : List Tok) (i : ℕ) → place_of n ts ≡ Some i → place_of n (ts ++ us) ≡ Some i
place_append n [] us i e = cc
place_append n (t ∷ ts) us i e = by (bytes_eq t.name n) (place_of n ts) refl e (place_append n ts us)
  where
    by : (b : Bool) (o : Option ℕ) → place_of n ts ≡ o → (if b then Some 0 else option_map (λ i. suc i) o) ≡ Some i → ((j : ℕ) → place_of n ts ≡ Some j → place_of n (ts ++ us) ≡ Some j)
        → (if b then Some 0 else option_map (λ i. suc i) (place_of n (ts ++ us))) ≡ Some i
    by true o po q later = q
    by false None po q later = cc
    by false (Some j) po q later = ap (option_map (λ i. suc i)) (later j po) ∙ q

-- the place of a name where one token more is behind
place_push : (n : Name) (ts : List Tok) (t : Tok) → place_of n (ts ++ t ∷ []) ≡ option_or (place_of n ts) (if bytes_eq t.name n then Some (length ts) else None)
place_push n [] t = by (bytes_eq t.name n)
  where
    by : (b : Bool) → (if b then Some 0 else option_map (λ i. suc i) None) ≡ option_or None (if b then Some 0 else None)
    by true = refl
    by false = refl
place_push n (x ∷ ts) t = by (bytes_eq x.name n) (bytes_eq t.name n) (place_of n ts) (place_push n ts t)
  where
    by : (a b : Bool) (o : Option ℕ) → place_of n (ts ++ t ∷ []) ≡ option_or o (if b then Some (length ts) else None)
        → (if a then Some 0 else option_map (λ i. suc i) (place_of n (ts ++ t ∷ []))) ≡ option_or (if a then Some 0 else option_map (λ i. suc i) o) (if b then Some (length (x ∷ ts)) else None)
    by true b o h = refl
    by false b (Some i) h = ap (option_map (λ i. suc i)) h
    by false true None h = ap (option_map (λ i. suc i)) h
    by false false None h = ap (option_map (λ i. suc i)) h

same_name : (n m : Name) → bytes_eq n m ≡ true → n ≡ m
same_name n m h = (bytes_eq-Decides n m).0 h

module _ {S : Type 0} (m : HashMap (Bor (List ℕ)) ℕ S) (ts : List Tok) where
  -- a token more whose name is among the others
  pub places_again : (t : Tok) → HasPlaces m ts → is_named_in t.name ts ≡ true → HasPlaces m (ts ++ t ∷ [])
  places_again t h named n i e = by (place_of n ts) refl (bytes_eq t.name n) refl (sym (place_push n ts t) ∙ e)
    where
      by : (o : Option ℕ) → place_of n ts ≡ o → (b : Bool) → bytes_eq t.name n ≡ b → option_or o (if b then Some (length ts) else None) ≡ Some i → place_in m n ≡ Some i
      by (Some j) po b is q = h n i (po ∙ q)
      by None po true is q =
          let lacks : is_named_in n ts ≡ false = named_place n ts ∙ ap is_some po in
          let holds : is_named_in n ts ≡ true = subst (λ x. is_named_in x ts ≡ true) (same_name t.name n is) named in
          cc
      by None po false is q = cc

  -- one whose name is none of the others, where it has its place now
  pub places_new : (old : HashMap (Bor (List ℕ)) ℕ S) (t : Tok) → HasPlaces old ts → is_named_in t.name ts ≡ false → ((n : Name) → place_in m n ≡ (if bytes_eq t.name n then Some (length ts) else place_in old n))
      → HasPlaces m (ts ++ t ∷ [])
  places_new old t h new set n i e = by (place_of n ts) refl (bytes_eq t.name n) refl (sym (place_push n ts t) ∙ e)
    where
      by : (o : Option ℕ) → place_of n ts ≡ o → (b : Bool) → bytes_eq t.name n ≡ b → option_or o (if b then Some (length ts) else None) ≡ Some i → place_in m n ≡ Some i
      by (Some j) po true is q =
          let holds : is_named_in n ts ≡ true = named_place n ts ∙ ap is_some po in
          let lacks : is_named_in n ts ≡ false = subst (λ x. is_named_in x ts ≡ false) (same_name t.name n is) new in
          cc
      by (Some j) po false is q = set n ∙ ap (λ b. if b then Some (length ts) else place_in old n) is ∙ h n i (po ∙ q)
      by None po true is q = set n ∙ ap (λ b. if b then Some (length ts) else place_in old n) is ∙ q
      by None po false is q = cc

  -- the first of the tokens alone
  pub places_before : (us : List Tok) → HasPlaces m (ts ++ us) → HasPlaces m ts
  places_before us h n i e = h n i (place_append n ts us i e)

-- the same of tokens behind their references: with one more, and with those in front of a place alone
module _ {S : Type 0} (m : HashMap (Bor (List ℕ)) ℕ S) (old new : List (Bor Token)) where
  pub places_pushed : (t : Bor Token) → new ≡ old ++ t ∷ [] → HasPlaces m (toks_of old ++ tok_of t.now ∷ []) → HasPlaces m (toks_of new)
  places_pushed t e h = subst (λ ts. HasPlaces m ts) (sym (ap toks_of e ∙ map-append (λ x. tok_of x.now) old (t ∷ []))) h

  pub places_taken : (k : ℕ) → new ≡ take k old → HasPlaces m (toks_of old) → HasPlaces m (toks_of new)
  places_taken k e h =
      let whole : toks_of (take k old) ++ toks_of (drop k old) ≡ toks_of old = sym (map-append (λ x. tok_of x.now) (take k old) (drop k old)) ∙ ap toks_of (take-append-drop k old) in
      subst (λ ts. HasPlaces m ts) (ap toks_of (sym e)) (places_before m (toks_of (take k old)) (toks_of (drop k old)) (subst (λ ts. HasPlaces m ts) (sym whole) h))

  -- after a call that puts a token more behind, or leaves all as it was: of a name that is among the others
  pub kept_again : {A E : Type 0} (r : Result A E) (t : Bor Token) → OnOk r (new ≡ old ++ t ∷ []) → OnErr r (new ≡ old) → HasPlaces m (toks_of old) → is_named_in (tok_of t.now).name (toks_of old) ≡ true → HasPlaces m (toks_of new)
  kept_again (Ok x) t pushed failed h named = places_pushed t pushed (places_again m (toks_of old) (tok_of t.now) h named)
  kept_again (Err e) t pushed failed h named = subst (λ ts. HasPlaces m (toks_of ts)) (sym failed) h

  -- and of one that has its place already
  pub kept_new : {A E : Type 0} (r : Result A E) (t : Bor Token) → OnOk r (new ≡ old ++ t ∷ []) → OnErr r (new ≡ old) → HasPlaces m (toks_of old ++ tok_of t.now ∷ []) → HasPlaces m (toks_of new)
  kept_new (Ok x) t pushed failed h = places_pushed t pushed h
  kept_new (Err e) t pushed failed h = subst (λ ts. HasPlaces m (toks_of ts)) (sym failed) (places_before m (toks_of old) (tok_of t.now ∷ []) h)
