-- What type expressions ask holds of what is left of types.
use Rattle.std.proofs.Common.{◌≡◌, ℕ, Bool, true, false, List, [], ◌∷◌, Option, Some, None, refl, sym, ap, if◌then◌else◌}
use Rattle.token_model.specs.Kinds.{Tok}
use Rattle.tree_model.specs.Trees.{Place}
use Rattle.type_model.specs.Types.{Tuple}
use Rattle.signature_model.specs.Declarations.{Declaration}
use Rattle.signature_model.specs.Entries.{type_kind}
use Rattle.typing_model.specs.Demands.{type_word, site}
use Rattle.typing_model.specs.Contexts.{type_at}
use Rattle.typing_model.specs.Parts.{Written, TypeExpression, no_type_at}
use Rattle.typing_model.specs.Names.{names_of, then_by, referent_of, found_by, declaration_in}
use Rattle.typing_model.specs.TypeExpressions.{tvar, read_all, declared_type, constructor_asks, tcon, tapp, in_parentheses, equal_of_one, tparen, ttuple, tarrow, nodes_of}
use Rattle.typing_laws.proofs.Steady.{Each, no_one, one_and}
use Rattle.settled_types.specs.Made.{Constructors}
use Rattle.settled_types.proofs.Erasing.{erase_types}
use Rattle.settled_types.proofs.One.{lookup_one}
use Rattle.settled_types.proofs.Goes.{Goes, nothing_goes, behind, at_test, same_one, along, at_bound, Pair, left, right}
use Rattle.settled_types.proofs.Uses.{IsDeclared, type_declared, applied_left, type_made}

-- a type expression's conditions hold of what is left
pub record GoesType (w : Constructors) (t : TypeExpression) : Type 0 where
  pub reads : (c : Pair w) → Goes w (t.read (left c)) (t.read (right c))
  pub reads_group : (c : Pair w) → Goes w (t.grouped_read (left c)) (t.grouped_read (right c))

pub no_type_goes : (w : Constructors) (n : ℕ) (p : Place) → GoesType w (no_type_at n p)
no_type_goes w n p = record { reads = λ c. nothing_goes; reads_group = λ c. nothing_goes }

pub tvar_goes : (w : Constructors) (n : ℕ) (p : Place) (t : Option Tok) → GoesType w (tvar n p t)
tvar_goes w n p None = no_type_goes w n p
tvar_goes w n p (Some t) = record { reads = λ c. same_one w refl refl; reads_group = λ c. same_one w refl refl }

reads_all : {w : Constructors} (c : Pair w) (ts : List TypeExpression) → Each (GoesType w) ts → Goes w (read_all (left c) ts) (read_all (right c) ts)
reads_all c [] no_one = nothing_goes
reads_all c (t ∷ ts) (one_and s each) = behind (s.reads c) (reads_all c ts each)

if_goes : {w : Constructors} (b : Bool) {xs ys us vs : List _} → Goes w xs us → Goes w ys vs → Goes w (if b then xs else ys) (if b then us else vs)
if_goes true h g = h
if_goes false h g = g

declared_goes : {w : Constructors} (c : Pair w) (n : ℕ) (t : Tok) (ns : List ℕ) (o : Option Declaration) → IsDeclared w o → Goes w (declared_type (left c) n t ns o) (declared_type (right c) n t ns o)
declared_goes c n t ns None h = nothing_goes
declared_goes {w} c n t ns (Some d) h = at_test refl (if_goes (c.kept (site n 1)) (same_one w refl (applied_left c n d ns (type_made w d h))) nothing_goes)

constructor_goes : {w : Constructors} (c : Pair w) (n : ℕ) (p : Written) (ns : List ℕ) → Goes w (constructor_asks (left c) n p ns) (constructor_asks (right c) n p ns)
constructor_goes {w} c n p ns = by p.last refl
  where
    by : (o : Option Tok) → p.last ≡ o → Goes w (constructor_asks (left c) n p ns) (constructor_asks (right c) n p ns)
    by None e = rw (e, constructor_asks) nothing_goes
    by (Some t) e = rw (e, constructor_asks) (at_bound c n 0 type_kind type_word p t refl (
        along (declared_type (left c) n t ns) (declared_type (right c) n t ns)
        (ap (λ f. if c.kept (site n 0) then then_by (referent_of f) declaration_in else None) (lookup_one w.all (names_of p.qualifiers) type_kind t.name refl c.names))
        (declared_goes c n t ns (if c.kept (site n 0) then then_by (referent_of (found_by (left c) type_kind p t)) declaration_in else None) (type_declared c n p t))))

pub tcon_goes : (w : Constructors) (n : ℕ) (q : Place) (p : Written) → GoesType w (tcon n q p)
tcon_goes w n q p = record { reads = λ c. constructor_goes c n p []; reads_group = λ c. constructor_goes c n p [] }

pub tapp_goes : (w : Constructors) (n : ℕ) (q : Place) (first : TypeExpression) (p : Written) → GoesType w first → GoesType w (tapp n q first p)
tapp_goes w n q first p s = record {
  reads = λ c. behind (s.reads_group c) (constructor_goes c n p first.grouped);
  reads_group = λ c. behind (s.reads_group c) (constructor_goes c n p first.grouped);
}

in_parentheses_goes : {w : Constructors} (c : Pair w) (n : ℕ) (q : Place) (ts : List TypeExpression) → Goes w (in_parentheses (left c) n q ts) (in_parentheses (right c) n q ts)
in_parentheses_goes c n q [] = nothing_goes
in_parentheses_goes {w} c n q (t ∷ []) = same_one w refl refl
in_parentheses_goes c n q (t ∷ u ∷ ts) = at_test refl nothing_goes

equal_goes : {w : Constructors} (c : Pair w) (n : ℕ) (ts : List TypeExpression) → Goes w (equal_of_one (left c) n ts) (equal_of_one (right c) n ts)
equal_goes c n [] = nothing_goes
equal_goes {w} c n (t ∷ []) = same_one w refl refl
equal_goes c n (t ∷ u ∷ ts) = nothing_goes

pub tparen_goes : (w : Constructors) (n : ℕ) (q : Place) (ts : List TypeExpression) → Each (GoesType w) ts → GoesType w (tparen n q ts)
tparen_goes w n q ts each = record {
  reads = λ c. behind (reads_all c ts each) (in_parentheses_goes c n q ts);
  reads_group = λ c. behind (reads_all c ts each) (equal_goes c n ts);
}

pub ttuple_goes : (w : Constructors) (n : ℕ) (q : Place) (ts : List TypeExpression) → Each (GoesType w) ts → GoesType w (ttuple n q ts)
ttuple_goes w n q ts each = record { reads = λ c. both c; reads_group = λ c. both c }
  where
    both : (c : Pair w) → Goes w ((ttuple n q ts).read (left c)) ((ttuple n q ts).read (right c))
    both c = behind (reads_all c ts each) (same_one w refl (ap Tuple (sym (erase_types w.all (type_at (left c)) (nodes_of ts)))))

pub tarrow_goes : (w : Constructors) (n : ℕ) (q : Place) (t u : TypeExpression) → GoesType w t → GoesType w u → GoesType w (tarrow n q t u)
tarrow_goes w n q t u s z = record {
  reads = λ c. behind (behind (s.reads c) (z.reads c)) (same_one w refl refl);
  reads_group = λ c. behind (behind (s.reads c) (z.reads c)) (same_one w refl refl);
}
