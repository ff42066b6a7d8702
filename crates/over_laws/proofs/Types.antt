-- What type expressions tell.
use Rattle.std.proofs.Common.{◌≡◌, ℕ, Bool, true, false, List, [], ◌∷◌, Option, Some, None, refl, if◌then◌else◌}
use Rattle.token_model.specs.Kinds.{Tok}
use Rattle.tree_model.specs.Trees.{Place}
use Rattle.signature_model.specs.Declarations.{Declaration}
use Rattle.signature_model.specs.Entries.{type_kind}
use Rattle.typing_model.specs.Demands.{site, Condition, same}
use Rattle.typing_model.specs.Contexts.{Context, type_at, Variables, in_item, parameters, unresolved_in}
use Rattle.typing_model.specs.Parts.{Written, TypeExpression, no_type_at}
use Rattle.typing_model.specs.Names.{then_by, referent_of, found_by, declaration_in}
use Rattle.typing_model.specs.TypeExpressions.{applied_to, index_from, variable_asks, tvar, read_all, declared_type, constructor_asks, tcon, tapp, in_parentheses, equal_of_one, tparen, ttuple, tarrow}
use Rattle.typing_laws.proofs.Steady.{Each, no_one, one_and}
use Rattle.over_laws.proofs.Told.{Around, IsIn, BeginsOther, AllOver, Told, silent, nothing_told, join, quiet, asked}

-- a type expression tells environments with values and exceptions in front where it stands in one
pub record ToldType (w : Around) (t : TypeExpression) : Type 0 where
  pub reads : (c : Context) → IsIn w c → Told w (t.read c)
  pub reads_group : (c : Context) → IsIn w c → Told w (t.grouped_read c)

unresolved_told : {w : Around} (c : Context) (n : ℕ) (v : Variables) → Told w (unresolved_in c n v)
unresolved_told c n (in_item i) = nothing_told
unresolved_told c n (parameters ps) = silent (unresolved_in c n (parameters ps)) (tt, tt)

-- a type expression that tells nothing
silent_type : {w : Around} {t : TypeExpression} → ((c : Context) → Told w (t.read c)) → ((c : Context) → Told w (t.grouped_read c)) → ToldType w t
silent_type f g = record { reads = λ c o. f c; reads_group = λ c o. g c }

pub no_type_told : {w : Around} (n : ℕ) (p : Place) → ToldType w (no_type_at n p)
no_type_told n p = silent_type (λ c. unresolved_told c n c.variables) (λ c. unresolved_told c n c.variables)

variable_told : {w : Around} (c : Context) (n : ℕ) (t : Tok) (v : Variables) → Told w (variable_asks c n t v)
variable_told c n t (in_item i) = silent (variable_asks c n t (in_item i)) (tt, tt)
variable_told {w} c n t (parameters ps) = by (index_from 0 t.name ps) refl
  where
    by : (o : Option ℕ) → index_from 0 t.name ps ≡ o → Told w (variable_asks c n t (parameters ps))
    by None e = rw (e, variable_asks) (join asked (unresolved_told c n c.variables))
    by (Some j) e = rw (e, variable_asks) (quiet _ (tt, tt) asked)

pub tvar_told : {w : Around} (n : ℕ) (p : Place) (t : Option Tok) → ToldType w (tvar n p t)
tvar_told n p None = no_type_told n p
tvar_told n p (Some t) = silent_type (λ c. variable_told c n t c.variables) (λ c. variable_told c n t c.variables)

pub reads_told : {w : Around} (c : Context) (o : IsIn w c) {ts : List TypeExpression} → Each (ToldType w) ts → Told w (read_all c ts)
reads_told c o no_one = nothing_told
reads_told c o (one_and s rest) = join (s.reads c o) (reads_told c o rest)

declared_told : {w : Around} (c : Context) (n : ℕ) (t : Tok) (ns : List ℕ) (o : Option Declaration) → Told w (declared_type c n t ns o)
declared_told c n t ns None = unresolved_told c n c.variables
declared_told {w} c n t ns (Some d) = join asked (by (c.kept (site n 1)) (same (type_at c n) (applied_to c n d ns)) (tt, tt))
  where
    given : Bool → Condition → List Condition
    given b x = if b then x ∷ [] else unresolved_in c n c.variables

    by : (b : Bool) (x : Condition) → BeginsOther (x ∷ []) × AllOver w (x ∷ []) → Told w (given b x)
    by true x e = silent (x ∷ []) e
    by false x e = unresolved_told c n c.variables

constructor_told : {w : Around} (c : Context) (n : ℕ) (p : Written) (ns : List ℕ) → Told w (constructor_asks c n p ns)
constructor_told {w} c n p ns = by p.last refl
  where
    by : (o : Option Tok) → p.last ≡ o → Told w (constructor_asks c n p ns)
    by None e = rw (e, constructor_asks) (unresolved_told c n c.variables)
    by (Some t) e = rw (e, constructor_asks) (join asked (declared_told c n t ns (if c.kept (site n 0) then then_by (referent_of (found_by c type_kind p t)) declaration_in else None)))

pub tcon_told : {w : Around} (n : ℕ) (q : Place) (p : Written) → ToldType w (tcon n q p)
tcon_told n q p = silent_type (λ c. constructor_told c n p []) (λ c. constructor_told c n p [])

pub tapp_told : {w : Around} (n : ℕ) (q : Place) (left : TypeExpression) (p : Written) → ToldType w left → ToldType w (tapp n q left p)
tapp_told n q left p s = record { reads = λ c o. join (s.reads_group c o) (constructor_told c n p left.grouped); reads_group = λ c o. join (s.reads_group c o) (constructor_told c n p left.grouped) }

in_parentheses_told : {w : Around} (c : Context) (n : ℕ) (q : Place) (ts : List TypeExpression) → Told w (in_parentheses c n q ts)
in_parentheses_told c n q [] = nothing_told
in_parentheses_told c n q (t ∷ []) = silent (in_parentheses c n q (t ∷ [])) (tt, tt)
in_parentheses_told c n q (t ∷ u ∷ ts) = join asked (unresolved_told c n c.variables)

equal_told : {w : Around} (c : Context) (n : ℕ) (ts : List TypeExpression) → Told w (equal_of_one c n ts)
equal_told c n [] = nothing_told
equal_told c n (t ∷ []) = silent (equal_of_one c n (t ∷ [])) (tt, tt)
equal_told c n (t ∷ u ∷ ts) = nothing_told

pub tparen_told : {w : Around} (n : ℕ) (q : Place) (ts : List TypeExpression) → Each (ToldType w) ts → ToldType w (tparen n q ts)
tparen_told n q ts each = record { reads = λ c o. join (reads_told c o each) (in_parentheses_told c n q ts); reads_group = λ c o. join (reads_told c o each) (equal_told c n ts) }

pub ttuple_told : {w : Around} (n : ℕ) (q : Place) (ts : List TypeExpression) → Each (ToldType w) ts → ToldType w (ttuple n q ts)
ttuple_told n q ts each = record { reads = λ c o. quiet _ (tt, tt) (reads_told c o each); reads_group = λ c o. quiet _ (tt, tt) (reads_told c o each) }

pub tarrow_told : {w : Around} (n : ℕ) (q : Place) (t u : TypeExpression) → ToldType w t → ToldType w u → ToldType w (tarrow n q t u)
tarrow_told n q t u s z = record {
  reads = λ c o. quiet _ (tt, tt) (join (s.reads c o) (z.reads c o));
  reads_group = λ c o. quiet _ (tt, tt) (join (s.reads c o) (z.reads c o));
}
