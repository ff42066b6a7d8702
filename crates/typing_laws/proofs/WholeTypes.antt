-- Type expressions ask the same of both sets of kept demands, as far as these keep the same.
use Rattle.std.proofs.Common.{◌≡◌, ℕ, List, [], ◌∷◌, Option, Some, None, refl, ap, if◌then◌else◌}
use Rattle.token_model.specs.Kinds.{Tok}
use Rattle.tree_model.specs.Trees.{Place}
use Rattle.signature_model.specs.Declarations.{Declaration}
use Rattle.signature_model.specs.Entries.{type_kind}
use Rattle.typing_model.specs.Demands.{site}
use Rattle.typing_model.specs.Contexts.{Context, Variables, in_item, parameters, unresolved_in}
use Rattle.typing_model.specs.Parts.{Written, TypeExpression, no_type_at}
use Rattle.typing_model.specs.Names.{then_by, referent_of, found_by, declaration_in}
use Rattle.typing_model.specs.TypeExpressions.{index_from, variable_asks, tvar, read_all, declared_type, constructor_asks, tcon, tapp, in_parentheses, equal_of_one, tparen, ttuple, tarrow}
use Rattle.typing_laws.proofs.Together.{Kept, keeping}
use Rattle.typing_laws.proofs.Whole.{Whole, at_end, at_demand, at_same, behind, if_alike, along}
use Rattle.typing_laws.proofs.Steady.{Each, no_one, one_and, WholeType}

-- what any type asks
pub unresolved_alike : {k m : Kept} (c : Context) (n : ℕ) (v : Variables) → Whole k m (unresolved_in (keeping k c) n v) (unresolved_in (keeping m c) n v)
unresolved_alike c n (in_item i) = at_end
unresolved_alike c n (parameters ps) = at_same at_end

pub no_type_whole : {k m : Kept} (n : ℕ) (p : Place) → WholeType k m (no_type_at n p)
no_type_whole {k} {m} n p = record {
  reads = λ c. unresolved_alike c n c.variables;
  reads_group = λ c. unresolved_alike c n c.variables;
}

variable_alike : {k m : Kept} (c : Context) (n : ℕ) (t : Tok) (v : Variables) →
    Whole k m (variable_asks (keeping k c) n t v) (variable_asks (keeping m c) n t v)
variable_alike c n t (in_item i) = at_same at_end
variable_alike {k} {m} c n t (parameters ps) = by (index_from 0 t.name ps) refl
  where
    by : (o : Option ℕ) → index_from 0 t.name ps ≡ o → Whole k m (variable_asks (keeping k c) n t (parameters ps)) (variable_asks (keeping m c) n t (parameters ps))
    by None e = rw (e, variable_asks) (at_demand (λ a. unresolved_alike c n c.variables))
    by (Some j) e = rw (e, variable_asks) (at_demand (λ a. at_same at_end))

pub tvar_whole : {k m : Kept} (n : ℕ) (p : Place) (t : Option Tok) → WholeType k m (tvar n p t)
tvar_whole n p None = no_type_whole n p
tvar_whole n p (Some t) = record { reads = λ c. variable_alike c n t c.variables; reads_group = λ c. variable_alike c n t c.variables }

-- one after the other
pub reads_all : {k m : Kept} (c : Context) (ts : List TypeExpression) → Each (WholeType k m) ts → Whole k m (read_all (keeping k c) ts) (read_all (keeping m c) ts)
reads_all c [] no_one = at_end
reads_all c (t ∷ ts) (one_and s each) = behind (s.reads c) (λ a. reads_all c ts each)

-- behind the name of a constructor
declared_alike : {k m : Kept} (c : Context) (n : ℕ) (t : Tok) (ns : List ℕ) (o : Option Declaration) → Whole k m (declared_type (keeping k c) n t ns o) (declared_type (keeping m c) n t ns o)
declared_alike c n t ns None = unresolved_alike c n c.variables
declared_alike {k} {m} c n t ns (Some d) = at_demand (λ a. if_alike (k (site n 1)) (m (site n 1)) a (at_same at_end) (unresolved_alike c n c.variables))

constructor_alike : {k m : Kept} (c : Context) (n : ℕ) (p : Written) (ns : List ℕ) → Whole k m (constructor_asks (keeping k c) n p ns) (constructor_asks (keeping m c) n p ns)
constructor_alike {k} {m} c n p ns = by p.last refl
  where
    by : (o : Option Tok) → p.last ≡ o → Whole k m (constructor_asks (keeping k c) n p ns) (constructor_asks (keeping m c) n p ns)
    by None e = rw (e, constructor_asks) (unresolved_alike c n c.variables)
    by (Some t) e = rw (e, constructor_asks) (at_demand (λ a.
        along (declared_type (keeping k c) n t ns) (declared_type (keeping m c) n t ns) (ap (λ b. if b then then_by (referent_of (found_by c type_kind p t)) declaration_in else None) a)
        (declared_alike c n t ns (if k (site n 0) then then_by (referent_of (found_by c type_kind p t)) declaration_in else None))))

pub tcon_whole : {k m : Kept} (n : ℕ) (q : Place) (p : Written) → WholeType k m (tcon n q p)
tcon_whole n q p = record { reads = λ c. constructor_alike c n p []; reads_group = λ c. constructor_alike c n p [] }

pub tapp_whole : {k m : Kept} (n : ℕ) (q : Place) (left : TypeExpression) (p : Written) → WholeType k m left → WholeType k m (tapp n q left p)
tapp_whole n q left p s = record {
  reads = λ c. behind (s.reads_group c) (λ a. constructor_alike c n p left.grouped);
  reads_group = λ c. behind (s.reads_group c) (λ a. constructor_alike c n p left.grouped);
}

in_parentheses_alike : {k m : Kept} (c : Context) (n : ℕ) (q : Place) (ts : List TypeExpression) →
    Whole k m (in_parentheses (keeping k c) n q ts) (in_parentheses (keeping m c) n q ts)
in_parentheses_alike c n q [] = at_end
in_parentheses_alike c n q (t ∷ []) = at_same at_end
in_parentheses_alike {k} {m} c n q (t ∷ u ∷ ts) = at_demand (λ a. unresolved_alike c n c.variables)

equal_alike : {k m : Kept} (c : Context) (n : ℕ) (ts : List TypeExpression) → Whole k m (equal_of_one (keeping k c) n ts) (equal_of_one (keeping m c) n ts)
equal_alike c n [] = at_end
equal_alike c n (t ∷ []) = at_same at_end
equal_alike c n (t ∷ u ∷ ts) = at_end

pub tparen_whole : {k m : Kept} (n : ℕ) (q : Place) (ts : List TypeExpression) → Each (WholeType k m) ts → WholeType k m (tparen n q ts)
tparen_whole n q ts each = record {
  reads = λ c. behind (reads_all c ts each) (λ a. in_parentheses_alike c n q ts);
  reads_group = λ c. behind (reads_all c ts each) (λ a. equal_alike c n ts);
}

pub ttuple_whole : {k m : Kept} (n : ℕ) (q : Place) (ts : List TypeExpression) → Each (WholeType k m) ts → WholeType k m (ttuple n q ts)
ttuple_whole n q ts each = record {
  reads = λ c. behind (reads_all c ts each) (λ a. at_same at_end);
  reads_group = λ c. behind (reads_all c ts each) (λ a. at_same at_end);
}

pub tarrow_whole : {k m : Kept} (n : ℕ) (q : Place) (t u : TypeExpression) → WholeType k m t → WholeType k m u → WholeType k m (tarrow n q t u)
tarrow_whole n q t u s z = record {
  reads = λ c. behind (behind (s.reads c) (λ a. z.reads c)) (λ a. at_same at_end);
  reads_group = λ c. behind (behind (s.reads c) (λ a. z.reads c)) (λ a. at_same at_end);
}
