-- The root of a built-in type is the type that the definitions give its declaration.
use Rattle.std.proofs.Common.{◌≡◌, ◌∙◌, ℕ, zero, suc, ◌<◌, ◌≤◌, Bool, true, false, ◌||◌, List, [], ◌∷◌, ◌++◌, length, Some, refl, sym, ap, subst, arith, eqb, if◌then◌else◌}
use Rattle.std.specs.Prelude.{slice_get, All}
use Rattle.std.proofs.lemmas.Bool.{eqb-true}
use Rattle.std.proofs.lemmas.Option.{slice_get_within}
use Rattle.type_model.specs.Types.{Path, Typ, occurs}
use Rattle.type_model.specs.Types.{Typ as type, Typs as types}
use Rattle.type_model.specs.Substitutions.{apply}
use Rattle.signature_model.specs.Declarations.{parameters_from}
use Rattle.signature_model.specs.Matching.{is_unknown, IsKnown}
use Rattle.typing_laws.proofs.Bools.{no_yes}
use Rattle.type_nodes.specs.Nodes.{Node, Var, Tuple, Con, bound_level}
use Rattle.type_nodes.specs.Readings.{Types}
use Rattle.type_nodes.specs.States.{State}
use Rattle.level_unify.specs.Generalising.{Generalised}
use Rattle.typing_state.specs.Types.{any_scope}
use Rattle.typing_conditions.specs.Locals.{IsOwn}
use Rattle.typing_conditions.specs.Standing.{IsIn}
use Rattle.typing_conditions.specs.Declared.{UnknownApart, RootAs, a_parameter, with_parameters}
use Rattle.binding_rows.specs.Outside.{AreOf}
use Rattle.typing_conditions.proofs.Making.{with_type, at_own, at_older, made_here}
use Rattle.typing_conditions.proofs.Steps.{Grows}
use Rattle.first_laws.specs.Built.{MakesRoot, alone, over_one}
use Rattle.first_laws.proofs.Grown.{NewParts, new_none, new_more, grows_made, grows_then}

pub all_none : (P : ℕ → Type 0) → All P []
all_none P k d lt = absurd (omega arith)

pub all_one : (P : ℕ → Type 0) (m : ℕ) → P m → All P (m ∷ [])
all_one P m h zero d lt = h
all_one P m h (suc k) d lt = absurd (omega arith)

pub all_two : (P : ℕ → Type 0) (m n : ℕ) → P m → P n → All P (m ∷ n ∷ [])
all_two P m n h i zero d lt = h
all_two P m n h i (suc zero) d lt = i
all_two P m n h i (suc (suc k)) d lt = absurd (omega arith)

-- what was made is new, and so are its parts
pub record IsNew (old new : List Node) (r : ℕ) : Type 0 where
  pub grows : Grows old new
  pub news : NewParts (length old) new
  pub above : length old ≤ r

-- so it is with a root
pub root_new : {path : Path} {old new : State} {r arity : ℕ} → MakesRoot path old new r arity → IsNew old.nodes new.nodes r
root_new {path} {old} {new} {r} (alone name made) = record {
  grows = grows_made old new r (Con path name []) made;
  news = new_more old new (length old.nodes) r (Con path name []) (new_none old.nodes) made (all_none (λ m. length old.nodes ≤ m));
  above = let e = made.added.number in omega arith;
}
root_new {path} {old} {new} {r} (over_one name v m first second one two three) =
    let g = grows_made old first v (Var 1 any_scope) one in
    let h = grows_made first second m (Con path name (v ∷ [])) two in
    let i = grows_made second new r (Tuple (v ∷ m ∷ [])) three in
    let e = one.added.number in let f = two.added.number in let f' = three.added.number in
    let l = g.longer in let l' = h.longer in
    let new_v : length old.nodes ≤ v = omega arith in
    let new_m : length old.nodes ≤ m = omega arith in
    let p = new_more old first (length old.nodes) v (Var 1 any_scope) (new_none old.nodes) one (all_none (λ m. length old.nodes ≤ m)) in
    let q = new_more first second (length old.nodes) m (Con path name (v ∷ [])) p two (all_one (λ m. length old.nodes ≤ m) v new_v) in
    record {
      grows = grows_then old.nodes second.nodes new.nodes (grows_then old.nodes first.nodes second.nodes g h) i;
      news = new_more second new (length old.nodes) r (Tuple (v ∷ m ∷ [])) q three (all_two (λ m. length old.nodes ≤ m) v m new_v new_m);
      above = omega arith;
    }

-- the root of a type that is closed, over so many parameters; its parameter is a bound variable that was made from a number of nodes on
pub data ClosedRoot (path : Path) (nodes : List Node) (k r : ℕ) : ℕ → Type 0 where
  closed_alone : (name : List ℕ) → slice_get nodes r ≡ Some (Con path name []) → ClosedRoot path nodes k r zero
  closed_over_one : (name : List ℕ) (v m : ℕ) → k ≤ v → slice_get nodes v ≡ Some (Var bound_level any_scope) → slice_get nodes m ≡ Some (Con path name (v ∷ [])) → slice_get nodes r ≡ Some (Tuple (v ∷ m ∷ [])) → ClosedRoot path nodes k r (suc zero)

-- Generalising binds the parameter.
pub root_closed : {path : Path} {old mid : State} {new : List Node} {r arity : ℕ} → MakesRoot path old mid r arity → Generalised mid.nodes new r 0 → ClosedRoot path new (length old.nodes) r arity
root_closed {path} {old} {mid} {new} {r} (alone name made) g = closed_alone name (g.stays r (Con path name []) (made_here old mid r (Con path name []) made) (λ h stands. h))
root_closed {path} {old} {mid} {new} {r} (over_one name v m first second one two three) g =
    closed_over_one name v m (let e = one.added.number in omega arith) (g.binds v (Var 1 any_scope) at_v (λ e. absurd (omega arith), omega arith) (record { each = λ F closed has. closed.each r (Tuple (v ∷ m ∷ [])) has at_r 0 0 (omega arith) }))
    (g.stays m (Con path name (v ∷ [])) at_m (λ h stands. h)) (g.stays r (Tuple (v ∷ m ∷ [])) at_r (λ h stands. h))
  where
    at_r : slice_get mid.nodes r ≡ Some (Tuple (v ∷ m ∷ []))
    at_r = made_here second mid r (Tuple (v ∷ m ∷ [])) three

    last : Grows second.nodes mid.nodes
    last = grows_made second mid r (Tuple (v ∷ m ∷ [])) three

    here_m : slice_get second.nodes m ≡ Some (Con path name (v ∷ []))
    here_m = made_here first second m (Con path name (v ∷ [])) two

    at_m : slice_get mid.nodes m ≡ Some (Con path name (v ∷ []))
    at_m = last.node m (slice_get_within second.nodes m (Con path name (v ∷ [])) here_m) ∙ here_m

    here_v : slice_get first.nodes v ≡ Some (Var 1 any_scope)
    here_v = made_here old first v (Var 1 any_scope) one

    both : Grows first.nodes mid.nodes
    both = grows_then first.nodes second.nodes mid.nodes (grows_made first second m (Con path name (v ∷ [])) two) last

    at_v : slice_get mid.nodes v ≡ Some (Var 1 any_scope)
    at_v = both.node v (slice_get_within first.nodes v (Var 1 any_scope) here_v) ∙ here_v

-- the names with that of the parameter
abbrev pub names_with : {path : Path} {nodes : List Node} {k r arity : ℕ} → ClosedRoot path nodes k r arity → Types → Types
names_with (closed_alone name e) N = N
names_with (closed_over_one name v m new at_v at_m at_r) N = with_type N v (type.Var 0)

-- are those of before at old nodes
pub names_older : {path : Path} {nodes : List Node} {k r arity : ℕ} (root : ClosedRoot path nodes k r arity) (N : Types) (w : ℕ) → w < k → names_with root N w ≡ N w
names_older (closed_alone name e) N w lt = refl
names_older (closed_over_one name v m new at_v at_m at_r) N w lt = at_older N v (type.Var 0) w (omega arith)

-- and no two of them are one unknown type
pub names_apart : {path : Path} {nodes : List Node} {k r arity : ℕ} (root : ClosedRoot path nodes k r arity) (N : Types) → UnknownApart N → UnknownApart (names_with root N)
names_apart (closed_alone name at_r) N apart v w o unknown e f = apart v w o unknown e f
names_apart (closed_over_one name p m new at_p at_m at_r) N apart v w o unknown e f = apart v w o unknown (older v e) (older w f)
  where
    older : (u : ℕ) → with_type N p (type.Var 0) u ≡ type.Con o types.Nil → N u ≡ type.Con o types.Nil
    older u g = by (eqb u p) g
      where
        by : (b : Bool) → (if b then type.Var 0 else N u) ≡ type.Con o types.Nil → N u ≡ type.Con o types.Nil
        by true h = absurd (cc)
        by false h = h

-- and each unknown type among them was one before
pub names_of_before : {path : Path} {nodes : List Node} {k r arity : ℕ} (root : ClosedRoot path nodes k r arity) (N : Types) (U : List ℕ) → AreOf U N → AreOf U (names_with root N)
names_of_before (closed_alone name at_r) N U of v n o e = of v n o e
names_of_before (closed_over_one name p m new at_p at_m at_r) N U of v n o e = by (eqb v p) e
  where
    by : (b : Bool) → (if b then type.Var 0 else N v) ≡ type.Con (o ++ n ∷ []) types.Nil → IsIn U n
    by true h = absurd (cc)
    by false h = of v n o h

-- a type without parameters
module _ (nodes : List Node) (path : Path) (name : List ℕ) (r : ℕ) (at_r : slice_get nodes r ≡ Some (Con path name [])) (known : is_unknown path ≡ false) where
  type_alone : (I : Types) → IsOwn nodes I → I r ≡ type.Con path types.Nil
  type_alone I own = own.loose.each r (Con path name []) at_r

  none_alone : (I : Types) → IsOwn nodes I → (v : ℕ) → occurs v (I r) ≡ true → ⊥
  none_alone I own v o = no_yes (ap (occurs v) (sym (type_alone I own)) ∙ o)

  root_alone : (C : List ℕ) (N : Types) → RootAs nodes (r ∷ C) N zero r (type.Con path types.Nil)
  root_alone C N = record {
    inside = slice_get_within nodes r (Con path name []) at_r;
    among = (zero, refl);
    known = λ I own. subst IsKnown (sym (type_alone I own)) (known, tt);
    is = λ I own. sym (ap (apply N) (type_alone I own));
    named = λ I own v o. absurd (none_alone I own v o);
    apart = λ I own v w o p e. absurd (none_alone I own v o);
  }

-- one that occurs in a pair of itself and of what has it alone
twice : (b : Bool) → (b || ((b || false) || false)) ≡ true → b ≡ true
twice true h = refl
twice false h = absurd (no_yes h)

-- a type of one parameter
module _ (nodes : List Node) (path : Path) (name : List ℕ) (v m r : ℕ) (at_v : slice_get nodes v ≡ Some (Var bound_level any_scope)) (at_m : slice_get nodes m ≡ Some (Con path name (v ∷ [])))
    (at_r : slice_get nodes r ≡ Some (Tuple (v ∷ m ∷ []))) (known : is_unknown path ≡ false) where
  -- the pair of a type and of the constructor of it
  abbrev pair : Typ → Typ
  pair t = type.Tuple (types.Cons t (types.Cons (type.Con path (types.Cons t types.Nil)) types.Nil))

  type_over : (I : Types) → IsOwn nodes I → I r ≡ pair (type.Var v)
  type_over I own =
      let a : I v ≡ type.Var v = own.vars v bound_level any_scope at_v in
      let b : I m ≡ type.Con path (types.Cons (I v) types.Nil) = own.loose.each m (Con path name (v ∷ [])) at_m in
      let c : I r ≡ type.Tuple (types.Cons (I v) (types.Cons (I m) types.Nil)) = own.loose.each r (Tuple (v ∷ m ∷ [])) at_r in
      c ∙ ap (λ t. type.Tuple (types.Cons (I v) (types.Cons t types.Nil))) b ∙ ap pair a

  only_over : (I : Types) → IsOwn nodes I → (w : ℕ) → occurs w (I r) ≡ true → w ≡ v
  only_over I own w o = eqb-true w v (twice (occurs w (type.Var v)) (ap (occurs w) (sym (type_over I own)) ∙ o))

  root_over : (C : List ℕ) (N : Types) → N v ≡ type.Var 0 → RootAs nodes (r ∷ C) N (suc zero) r (pair (type.Var 0))
  root_over C N is = record {
    inside = slice_get_within nodes r (Tuple (v ∷ m ∷ [])) at_r;
    among = (zero, refl);
    known = λ I own. subst IsKnown (sym (type_over I own)) (tt, ((known, (tt, tt)), tt));
    is = λ I own. ap pair (sym is) ∙ sym (ap (apply N) (type_over I own));
    named = λ I own w o.
        let s = only_over I own w o in
        a_parameter any_scope 0 (ap (slice_get nodes) s ∙ at_v) (λ e. absurd (omega arith)) (omega arith) (ap N s ∙ is);
    apart = λ I own w u o p e. only_over I own w o ∙ sym (only_over I own u p);
  }

-- A closed root is the type of its declaration.
pub root_as : {path : Path} {nodes : List Node} {k r arity : ℕ} → is_unknown path ≡ false → (root : ClosedRoot path nodes k r arity) (C : List ℕ) (N : Types) → RootAs nodes (r ∷ C) (names_with root N) arity r (with_parameters arity (type.Con path (parameters_from 0 arity)))
root_as {path} {nodes} {k} {r} known (closed_alone name at_r) C N = root_alone nodes path name r at_r known C N
root_as {path} {nodes} {k} {r} known (closed_over_one name v m new at_v at_m at_r) C N = root_over nodes path name v m r at_v at_m at_r known C (with_type N v (type.Var 0)) (at_own N v (type.Var 0))
