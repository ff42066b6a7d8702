-- Type expressions are read alike where types are found alike.
use Rattle.std.proofs.Common.{◌≡◌, ℕ, Bool, true, false, List, [], ◌∷◌, Option, Some, None, refl, if◌then◌else◌}
use Rattle.token_model.specs.Kinds.{Tok}
use Rattle.tree_model.specs.Trees.{Place}
use Rattle.signature_model.specs.Declarations.{Declaration}
use Rattle.signature_model.specs.Entries.{Environment, type_kind}
use Rattle.typing_model.specs.Demands.{site}
use Rattle.typing_model.specs.Contexts.{Context, Variables, in_item, parameters, under, unresolved_in}
use Rattle.typing_model.specs.Parts.{Written, TypeExpression, no_type_at}
use Rattle.typing_model.specs.Names.{names_of, then_by, referent_of, found_by, declaration_in}
use Rattle.typing_model.specs.TypeExpressions.{index_from, variable_asks, tvar, read_all, declared_type, constructor_asks, tcon, tapp, in_parentheses, equal_of_one, tparen, ttuple, tarrow}
use Rattle.typing_laws.proofs.Together.{Kept, keeping, Together, at_end, at_demand, at_same, behind, if_alike}
use Rattle.typing_laws.proofs.Steady.{Each, no_one, one_and, TypesAlike, declares, SteadyType}

-- what any type asks
pub unresolved_alike : {k m : Kept} (c d : Context) (n : ℕ) (v : Variables) → Together k m (unresolved_in c n v) (unresolved_in d n v)
unresolved_alike c d n (in_item i) = at_end
unresolved_alike c d n (parameters ps) = at_same at_end

pub no_type_steady : {k m : Kept} (n : ℕ) (p : Place) → SteadyType k m (no_type_at n p)
no_type_steady {k} {m} n p = record {
  reads = λ c E F h. unresolved_alike (under E (keeping k c)) (under F (keeping m c)) n c.variables;
  reads_group = λ c E F h. unresolved_alike (under E (keeping k c)) (under F (keeping m c)) n c.variables;
}

variable_alike : {k m : Kept} (c : Context) (E F : Environment) (n : ℕ) (t : Tok) (v : Variables) →
    Together k m (variable_asks (under E (keeping k c)) n t v) (variable_asks (under F (keeping m c)) n t v)
variable_alike c E F n t (in_item i) = at_same at_end
variable_alike {k} {m} c E F n t (parameters ps) = by (index_from 0 t.name ps) refl
  where
    by : (o : Option ℕ) → index_from 0 t.name ps ≡ o → Together k m (variable_asks (under E (keeping k c)) n t (parameters ps)) (variable_asks (under F (keeping m c)) n t (parameters ps))
    by None e = rw (e, variable_asks) (at_demand refl (λ a. unresolved_alike (under E (keeping k c)) (under F (keeping m c)) n c.variables))
    by (Some j) e = rw (e, variable_asks) (at_demand refl (λ a. at_same at_end))

pub tvar_steady : {k m : Kept} (n : ℕ) (p : Place) (t : Option Tok) → SteadyType k m (tvar n p t)
tvar_steady n p None = no_type_steady n p
tvar_steady n p (Some t) = record { reads = λ c E F h. variable_alike c E F n t c.variables; reads_group = λ c E F h. variable_alike c E F n t c.variables }

-- one after the other
pub reads_all : {k m : Kept} (c : Context) (E F : Environment) (ts : List TypeExpression) → TypesAlike E F → Each (SteadyType k m) ts → Together k m (read_all (under E (keeping k c)) ts) (read_all (under F (keeping m c)) ts)
reads_all c E F [] h no_one = at_end
reads_all c E F (t ∷ ts) h (one_and s each) = behind (s.reads c E F h) (λ a. reads_all c E F ts h each)

-- behind the name of a constructor
declared_alike : {k m : Kept} (c : Context) (E F : Environment) (n : ℕ) (t : Tok) (ns : List ℕ) (o p : Option Declaration) → declares o ≡ declares p →
    Together k m (declared_type (under E (keeping k c)) n t ns o) (declared_type (under F (keeping m c)) n t ns p)
declared_alike {k} {m} c E F n t ns None None e = unresolved_alike (under E (keeping k c)) (under F (keeping m c)) n c.variables
declared_alike c E F n t ns None (Some q) e = absurd (cc)
declared_alike c E F n t ns (Some d) None e = absurd (cc)
declared_alike {k} {m} c E F n t ns (Some d) (Some q) e =
    at_demand refl (λ a. if_alike (k (site n 1)) (m (site n 1)) a (at_same at_end) (unresolved_alike (under E (keeping k c)) (under F (keeping m c)) n c.variables))

-- what a path finds, where its demand is kept
kept_alike_found : (a b : Bool) (o p : Option Declaration) → a ≡ b → declares o ≡ declares p → declares (if a then o else None) ≡ declares (if b then p else None)
kept_alike_found true true o p e h = h
kept_alike_found false false o p e h = refl
kept_alike_found true false o p e h = absurd (cc)
kept_alike_found false true o p e h = absurd (cc)

constructor_alike : {k m : Kept} (c : Context) (E F : Environment) (n : ℕ) (p : Written) (ns : List ℕ) → TypesAlike E F →
    Together k m (constructor_asks (under E (keeping k c)) n p ns) (constructor_asks (under F (keeping m c)) n p ns)
constructor_alike {k} {m} c E F n p ns h = by p.last refl
  where
    by : (o : Option Tok) → p.last ≡ o → Together k m (constructor_asks (under E (keeping k c)) n p ns) (constructor_asks (under F (keeping m c)) n p ns)
    by None e = rw (e, constructor_asks) (unresolved_alike (under E (keeping k c)) (under F (keeping m c)) n c.variables)
    by (Some t) e = rw (e, constructor_asks) (at_demand refl (λ a.
        declared_alike c E F n t ns (if k (site n 0) then then_by (referent_of (found_by (under E (keeping k c)) type_kind p t)) declaration_in else None)
        (if m (site n 0) then then_by (referent_of (found_by (under F (keeping m c)) type_kind p t)) declaration_in else None)
        (kept_alike_found (k (site n 0)) (m (site n 0)) (then_by (referent_of (found_by (under E (keeping k c)) type_kind p t)) declaration_in)
        (then_by (referent_of (found_by (under F (keeping m c)) type_kind p t)) declaration_in) a (h.finds (names_of p.qualifiers) t.name))))

pub tcon_steady : {k m : Kept} (n : ℕ) (q : Place) (p : Written) → SteadyType k m (tcon n q p)
tcon_steady n q p = record { reads = λ c E F h. constructor_alike c E F n p [] h; reads_group = λ c E F h. constructor_alike c E F n p [] h }

pub tapp_steady : {k m : Kept} (n : ℕ) (q : Place) (left : TypeExpression) (p : Written) → SteadyType k m left → SteadyType k m (tapp n q left p)
tapp_steady n q left p s = record {
  reads = λ c E F h. behind (s.reads_group c E F h) (λ a. constructor_alike c E F n p left.grouped h);
  reads_group = λ c E F h. behind (s.reads_group c E F h) (λ a. constructor_alike c E F n p left.grouped h);
}

in_parentheses_alike : {k m : Kept} (c : Context) (E F : Environment) (n : ℕ) (q : Place) (ts : List TypeExpression) →
    Together k m (in_parentheses (under E (keeping k c)) n q ts) (in_parentheses (under F (keeping m c)) n q ts)
in_parentheses_alike c E F n q [] = at_end
in_parentheses_alike c E F n q (t ∷ []) = at_same at_end
in_parentheses_alike {k} {m} c E F n q (t ∷ u ∷ ts) = at_demand refl (λ a. unresolved_alike (under E (keeping k c)) (under F (keeping m c)) n c.variables)

equal_alike : {k m : Kept} (c : Context) (E F : Environment) (n : ℕ) (ts : List TypeExpression) → Together k m (equal_of_one (under E (keeping k c)) n ts) (equal_of_one (under F (keeping m c)) n ts)
equal_alike c E F n [] = at_end
equal_alike c E F n (t ∷ []) = at_same at_end
equal_alike c E F n (t ∷ u ∷ ts) = at_end

pub tparen_steady : {k m : Kept} (n : ℕ) (q : Place) (ts : List TypeExpression) → Each (SteadyType k m) ts → SteadyType k m (tparen n q ts)
tparen_steady n q ts each = record {
  reads = λ c E F h. behind (reads_all c E F ts h each) (λ a. in_parentheses_alike c E F n q ts);
  reads_group = λ c E F h. behind (reads_all c E F ts h each) (λ a. equal_alike c E F n ts);
}

pub ttuple_steady : {k m : Kept} (n : ℕ) (q : Place) (ts : List TypeExpression) → Each (SteadyType k m) ts → SteadyType k m (ttuple n q ts)
ttuple_steady n q ts each = record {
  reads = λ c E F h. behind (reads_all c E F ts h each) (λ a. at_same at_end);
  reads_group = λ c E F h. behind (reads_all c E F ts h each) (λ a. at_same at_end);
}

pub tarrow_steady : {k m : Kept} (n : ℕ) (q : Place) (t u : TypeExpression) → SteadyType k m t → SteadyType k m u → SteadyType k m (tarrow n q t u)
tarrow_steady n q t u s z = record {
  reads = λ c E F h. behind (behind (s.reads c E F h) (λ a. z.reads c E F h)) (λ a. at_same at_end);
  reads_group = λ c E F h. behind (behind (s.reads c E F h) (λ a. z.reads c E F h)) (λ a. at_same at_end);
}
