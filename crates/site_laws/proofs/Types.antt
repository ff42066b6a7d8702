-- Type expressions make each demand once.
use Rattle.std.proofs.Common.{◌≡◌, inl, ℕ, Bool, true, false, List, [], ◌∷◌, Option, Some, None, refl, arith, if◌then◌else◌}
use Rattle.token_model.specs.Kinds.{Tok}
use Rattle.tree_model.specs.Trees.{Place}
use Rattle.signature_model.specs.Declarations.{Declaration}
use Rattle.signature_model.specs.Entries.{type_kind}
use Rattle.typing_model.specs.Demands.{Site, site, Condition, same, sites_of}
use Rattle.typing_model.specs.Contexts.{Context, type_at, Variables, in_item, parameters, unresolved_in}
use Rattle.typing_model.specs.Parts.{Written, TypeExpression, no_type_at}
use Rattle.typing_model.specs.Names.{then_by, referent_of, found_by, declaration_in}
use Rattle.typing_model.specs.TypeExpressions.{applied_to, index_from, variable_asks, tvar, read_all, declared_type, constructor_asks, tcon, tapp, in_parentheses, equal_of_one, tparen, ttuple, tarrow}
use Rattle.site_laws.proofs.Sites.{Within, Apart, Either, Lies, widen, join, then_within, At, Span, Others, span_in, own_apart, apart_turned, spans_apart, asked, silent, quiet, none_within, Every, none_of, one_of}

-- a type expression makes its demands in a set, each once
pub record ApartType (P : Site → Type 0) (t : TypeExpression) : Type 0 where
  pub reads : (c : Context) → Within P (t.read c)
  pub reads_group : (c : Context) → Within P (t.grouped_read c)

pub type_in : {P Q : Site → Type 0} {t : TypeExpression} → Lies P Q → ApartType P t → ApartType Q t
type_in f s = record { reads = λ c. widen f (s.reads c); reads_group = λ c. widen f (s.reads_group c) }

unresolved_silent : (c : Context) (n : ℕ) (v : Variables) → sites_of (unresolved_in c n v) ≡ []
unresolved_silent c n (in_item i) = refl
unresolved_silent c n (parameters ps) = refl

pub no_type_apart : {P : Site → Type 0} (n : ℕ) (p : Place) → ApartType P (no_type_at n p)
no_type_apart n p = record {
  reads = λ c. silent (unresolved_in c n c.variables) (unresolved_silent c n c.variables);
  reads_group = λ c. silent (unresolved_in c n c.variables) (unresolved_silent c n c.variables);
}

variable_apart : (c : Context) (n : ℕ) (t : Tok) (v : Variables) → Within (At n) (variable_asks c n t v)
variable_apart c n t (in_item i) = silent (variable_asks c n t (in_item i)) refl
variable_apart c n t (parameters ps) = by (index_from 0 t.name ps) refl
  where
    by : (o : Option ℕ) → index_from 0 t.name ps ≡ o → Within (At n) (variable_asks c n t (parameters ps))
    by None e = rw (e, variable_asks) (widen span_in (quiet (unresolved_in c n c.variables) (unresolved_silent c n c.variables) asked))
    by (Some j) e = rw (e, variable_asks) (widen span_in (quiet _ refl asked))

pub tvar_apart : (n : ℕ) (p : Place) (t : Option Tok) → ApartType (At n) (tvar n p t)
tvar_apart n p None = no_type_apart n p
tvar_apart n p (Some t) = record { reads = λ c. variable_apart c n t c.variables; reads_group = λ c. variable_apart c n t c.variables }

pub reads_apart : {P : Site → Type 0} (c : Context) {ts : List TypeExpression} → Every ApartType P ts → Within P (read_all c ts)
reads_apart c none_of = none_within
reads_apart c (one_of s rest apart a b) = then_within (s.reads c) (reads_apart c rest) apart a b

declared_apart : (c : Context) (n : ℕ) (t : Tok) (ns : List ℕ) (o : Option Declaration) → Within (Span n 1 2) (declared_type c n t ns o)
declared_apart c n t ns None = silent (unresolved_in c n c.variables) (unresolved_silent c n c.variables)
declared_apart c n t ns (Some d) = quiet (given (c.kept (site n 1)) (same (type_at c n) (applied_to c n d ns))) (by (c.kept (site n 1)) (same (type_at c n) (applied_to c n d ns)) refl) asked
  where
    given : Bool → Condition → List Condition
    given b x = if b then x ∷ [] else unresolved_in c n c.variables

    by : (b : Bool) (x : Condition) → sites_of (x ∷ []) ≡ [] → sites_of (given b x) ≡ []
    by true x e = e
    by false x e = unresolved_silent c n c.variables

constructor_apart : (c : Context) (n : ℕ) (p : Written) (ns : List ℕ) → Within (At n) (constructor_asks c n p ns)
constructor_apart c n p ns = by p.last refl
  where
    by : (o : Option Tok) → p.last ≡ o → Within (At n) (constructor_asks c n p ns)
    by None e = rw (e, constructor_asks) (silent (unresolved_in c n c.variables) (unresolved_silent c n c.variables))
    by (Some t) e = rw (e, constructor_asks) (then_within asked (declared_apart c n t ns (if c.kept (site n 0) then then_by (referent_of (found_by c type_kind p t)) declaration_in else None)) (spans_apart (omega arith)) span_in span_in)

pub tcon_apart : (n : ℕ) (q : Place) (p : Written) → ApartType (At n) (tcon n q p)
tcon_apart n q p = record { reads = λ c. constructor_apart c n p []; reads_group = λ c. constructor_apart c n p [] }

pub tapp_apart : {A : Site → Type 0} (n : ℕ) (q : Place) (first : TypeExpression) (p : Written) → ApartType A first → Lies A (Others n) → ApartType (Either A (At n)) (tapp n q first p)
tapp_apart n q first p s others = record {
  reads = λ c. join (s.reads_group c) (constructor_apart c n p first.grouped) (apart_turned (own_apart (λ x i. i) others));
  reads_group = λ c. join (s.reads_group c) (constructor_apart c n p first.grouped) (apart_turned (own_apart (λ x i. i) others));
}

in_parentheses_apart : (c : Context) (n : ℕ) (q : Place) (ts : List TypeExpression) → Within (At n) (in_parentheses c n q ts)
in_parentheses_apart c n q [] = none_within
in_parentheses_apart c n q (t ∷ []) = silent (in_parentheses c n q (t ∷ [])) refl
in_parentheses_apart c n q (t ∷ u ∷ ts) = widen span_in (quiet (unresolved_in c n c.variables) (unresolved_silent c n c.variables) asked)

equal_silent : (c : Context) (n : ℕ) (ts : List TypeExpression) → sites_of (equal_of_one c n ts) ≡ []
equal_silent c n [] = refl
equal_silent c n (t ∷ []) = refl
equal_silent c n (t ∷ u ∷ ts) = refl

pub tparen_apart : {A : Site → Type 0} (n : ℕ) (q : Place) (ts : List TypeExpression) → Every ApartType A ts → Lies A (Others n) → ApartType (Either A (At n)) (tparen n q ts)
tparen_apart n q ts each others = record {
  reads = λ c. join (reads_apart c each) (in_parentheses_apart c n q ts) (apart_turned (own_apart (λ x i. i) others));
  reads_group = λ c. widen (λ x i. inl i) (quiet (equal_of_one c n ts) (equal_silent c n ts) (reads_apart c each));
}

pub ttuple_apart : {A : Site → Type 0} (n : ℕ) (q : Place) (ts : List TypeExpression) → Every ApartType A ts → ApartType A (ttuple n q ts)
ttuple_apart n q ts each = record { reads = λ c. quiet _ refl (reads_apart c each); reads_group = λ c. quiet _ refl (reads_apart c each) }

pub tarrow_apart : {A B : Site → Type 0} (n : ℕ) (q : Place) (t u : TypeExpression) → ApartType A t → ApartType B u → Apart A B → ApartType (Either A B) (tarrow n q t u)
tarrow_apart n q t u s z apart = record {
  reads = λ c. quiet _ refl (join (s.reads c) (z.reads c) apart);
  reads_group = λ c. quiet _ refl (join (s.reads c) (z.reads c) apart);
}
