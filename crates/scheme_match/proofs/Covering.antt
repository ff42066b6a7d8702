-- When a scheme covers another: an instance of one and a rigid instance of the other are made one.
use Rattle.std.proofs.Common.{◌≡◌, ◌≢◌, ℕ, ◌<◌, ◌≤◌, ◌^◌, Bool, true, false, ◌&&◌, List, [], ◌∷◌, length, Option, Some, None, refl, sym, ◌∙◌, ap, subst, arith, if◌then◌else◌, inl, inr}
use Rattle.std.specs.Prelude.{slice_get}
use Rattle.std.proofs.lemmas.Bool.{eqb-true}
use Rattle.std.proofs.lemmas.Option.{slice_get_past}
use Rattle.type_model.specs.Types.{Path, Typ, occurs}
use Rattle.type_model.specs.Types.{Typ as type, Typs as types}
use Rattle.type_model.specs.Substitutions.{Subst, apply, with_arguments}
use Rattle.type_model.specs.Schemes.{HasInstance}
use Rattle.type_model.specs.Origins.{rigid, put_for, replaced_by}
use Rattle.type_model.proofs.Applying.{apply_agree, apply_leaves, occurs_from}
use Rattle.type_model.proofs.Replacing.{behind_arguments}
use Rattle.type_nodes.specs.Nodes.{Node, Var, IsSound}
use Rattle.type_nodes.specs.Readings.{Types, IsReading}
use Rattle.level_unify.specs.Walks.{StandsIn}
use Rattle.level_unify.specs.Instances.{is_bound, is_bound_var, scheme_at, rigid_for, HasNoBoundVar, SameTypes, Instantiated, Frozen}
use Rattle.level_unify.proofs.Instances.{old_or_new}
use Rattle.scheme_match.specs.Covering.{CoversAt, KeepsOutRigid, Met, NeverCovers, Tried}
use Rattle.scheme_match.proofs.Thawing.{Leaves, IsOfRigid, replaced_apply, thaw, thaw_none, thaw_some, both_true, second}
use Rattle.scheme_match.proofs.Standing.{node_leaves, occurs_stands}

-- a number without a node, or whose node is no variable, is no bound variable
no_var : (c : Option Node) → ((l o : ℕ) → c ≢ Some (Var l o)) → is_bound_var c ≡ false
no_var None h = refl
no_var (Some (Var l o)) h = absurd (h l o refl)
no_var (Some Node.Rigid) h = refl
no_var (Some (Node.Link m)) h = refl
no_var (Some (Node.Arrow a b)) h = refl
no_var (Some (Node.Tuple ms)) h = refl
no_var (Some (Node.Con path name ms)) h = refl

-- a rigid instance makes no bound variable
same_bound : (old new : List Node) (w f : ℕ) → Frozen old new w f → (v : ℕ) → is_bound new v ≡ is_bound old v
same_bound old new w f fr v = elim (old_or_new v (length old)) [
  | inl lt ↦ ap is_bound_var (fr.extends.node v lt)
  | inr le ↦ no_var (slice_get new v) (λ l o. fr.vars v l o le) ∙ sym (ap is_bound_var (slice_get_past old v le))
]

on_bound : (nodes : List Node) (image : ℕ → ℕ) (v : ℕ) → is_bound nodes v ≡ true → rigid_for nodes image v ≡ rigid (image v)
on_bound nodes image v e = ap (λ b. if b then rigid (image v) else type.Var v) e

on_free : (nodes : List Node) (image : ℕ → ℕ) (v : ℕ) → is_bound nodes v ≡ false → rigid_for nodes image v ≡ type.Var v
on_free nodes image v e = ap (λ b. if b then rigid (image v) else type.Var v) e

-- no bound variable is left in a rigid instance
rigid_unbound : (nodes : List Node) (image : ℕ → ℕ) (t : Typ) (b : ℕ) → is_bound nodes b ≡ true → occurs b (apply (rigid_for nodes image) t) ≡ false
rigid_unbound nodes image t b bound = here (occurs b (apply (rigid_for nodes image) t)) refl
  where
    at : (u : ℕ) (x : Bool) → is_bound nodes u ≡ x → occurs b (rigid_for nodes image u) ≡ true → false ≡ true
    at u true e o = subst (λ t. occurs b t ≡ true) (on_bound nodes image u e) o
    at u false e o =
        let is : b ≡ u = eqb-true b u (subst (λ t. occurs b t ≡ true) (on_free nodes image u e) o) in
        sym e ∙ ap (is_bound nodes) (sym is) ∙ bound

    here : (x : Bool) → occurs b (apply (rigid_for nodes image) t) ≡ x → occurs b (apply (rigid_for nodes image) t) ≡ false
    here false e = e
    here true e = let (u, in_t, from) = occurs_from (rigid_for nodes image) b t e in absurd (let n : false ≡ true = at u (is_bound nodes u) refl from in cc)

-- schemes of one node in stores with the same bound variables have the same instances
same_instances : (V : Types) (W : Types) (old new : List Node) (a : ℕ) (x : Typ) → ((v : ℕ) → is_bound new v ≡ is_bound old v) → W a ≡ V a → HasInstance (scheme_at old V a) x → HasInstance (scheme_at new W a) x
same_instances V W old new a x same e (s, fixes, is) = (s, (λ v unbound. fixes v (sym (same v) ∙ unbound)), is ∙ ap (apply s) (sym e))

back_instances : (V : Types) (old new : List Node) (a : ℕ) (x : Typ) → ((v : ℕ) → is_bound new v ≡ is_bound old v) → HasInstance (scheme_at new V a) x → HasInstance (scheme_at old V a) x
back_instances V old new a x same (s, fixes, is) = (s, (λ v unbound. fixes v (same v ∙ unbound)), is)

-- the rigid instance is one of the scheme
rigid_instance : (nodes : List Node) (V : Types) (w : ℕ) (image : ℕ → ℕ) → HasInstance (scheme_at nodes V w) (apply (rigid_for nodes image) (V w))
rigid_instance nodes V w image = (rigid_for nodes image, (λ v unbound. on_free nodes image v unbound), refl)

-- A reading at which the scheme covers the other extends to one that gives both copies one type.
pub extends : (old m1 m2 : List Node) (a w m f level : ℕ) → a < length old → w < length old → Frozen old m1 w f → Instantiated m1 m2 a level m → (V : Types) → IsReading old V → CoversAt old V a w →
    (W : Types) × IsReading m2 W × SameTypes old V W × (W m ≡ W f)
extends old m1 m2 a w m f level ina inw fr ins V reads covers =
    let x : Typ = apply (rigid_for old fr.image) (V w) in
    let has = covers.each x (rigid_instance old V w fr.image) in
    let (U, r1, same1) = fr.read V reads in
    let longer = fr.extends.longer in
    let has1 = same_instances V U old m1 a x (same_bound old m1 w f fr) (same1 a ina) has in
    let unbound : HasNoBoundVar m1 x = λ b bound. rigid_unbound old fr.image (V w) b (sym (same_bound old m1 w f fr b) ∙ bound) in
    let (X, r2, same2, is) = ins.read U x r1 has1 unbound in
    let frozen : U f ≡ x = (fr.reads U r1).1 ∙ ap (apply (rigid_for old fr.image)) (same1 w inw) in
    (X, r2, (λ n lt. same2 n (omega arith) ∙ same1 n lt), is ∙ sym frozen ∙ sym (same2 f fr.inside))

abbrev first_of : Path → ℕ
first_of [] = 0
first_of (k ∷ rest) = k

-- what is put in place of nothing but itself
put_alone : (o : Path) (t : Typ) (f : Option Typ) → f ≡ Some t → put_for o f types.Nil ≡ t
put_alone o t f e = ap (λ x. put_for o x types.Nil) e ∙ apply_leaves (with_arguments []) t (λ v _. behind_arguments [] v v (omega arith))

module _ (old m1 m2 : List Node) (a w m f level : ℕ) (sound : IsSound old) (ina : a < length old) (inw : w < length old)
    (keeps_a : KeepsOutRigid old a) (keeps_w : KeepsOutRigid old w) (fr : Frozen old m1 w f) (ins : Instantiated m1 m2 a level m)
    (V : Types) (reads : IsReading old V) where
  -- the bound variables that occur in the wanted type
  abbrev stands : ℕ → Bool
  stands b = is_bound old b && occurs b (V w)

  stands_in : (b : ℕ) → stands b ≡ true → (is_bound old b ≡ true) × StandsIn old b w
  stands_in b e =
      let (bound, o) = both_true (is_bound old b) (occurs b (V w)) e in
      (bound, occurs_stands old V b sound reads bound w inw o)

  abbrev thawed : Subst → Path → Option Typ
  thawed q = thaw stands fr.image q (length old)

  late : (b : ℕ) → stands b ≡ true → length old ≤ fr.image b
  late b e = let (bound, s) = stands_in b e in (fr.made b bound s).0

  of_rigid : (q : Subst) → IsOfRigid (thawed q)
  of_rigid q = record {
    none = thaw_none stands fr.image q (length old) [] (λ b lt on e. cc);
    others = λ k rest other. thaw_none stands fr.image q (length old) (k ∷ rest) (λ b lt on e. other (ap first_of e));
  }

  never_old : (q : Subst) (n : ℕ) → n < length old → thawed q ((2 ^ 64) ∷ n ∷ []) ≡ None
  never_old q n lt = thaw_none stands fr.image q (length old) ((2 ^ 64) ∷ n ∷ []) (λ b low on e. let l = late b on in let is : n ≡ fr.image b = ap second e in absurd (omega arith))

  left_in : (q : Subst) (n : ℕ) → KeepsOutRigid old n → n < length old → Leaves (thawed q) (V n)
  left_in q n keeps lt = node_leaves old V (thawed q) n sound reads (of_rigid q) (never_old q) keeps lt

  -- putting q's types in place of the rigid variables gives q's instance
  agrees : (q : Subst) → ((v : ℕ) → is_bound old v ≡ false → q v ≡ type.Var v) → (v : ℕ) → occurs v (V w) ≡ true → (x : Bool) → is_bound old v ≡ x → replaced_by (thawed q) (rigid_for old fr.image v) ≡ q v
  agrees q fixes v o true e =
      let on : stands v ≡ true = ap (λ b. b && occurs v (V w)) e ∙ o in
      let (bound, s) = stands_in v on in
      let in_v = bound_below v e in
      ap (replaced_by (thawed q)) (on_bound old fr.image v e) ∙ put_alone ((2 ^ 64) ∷ fr.image v ∷ []) (q v) (thawed q ((2 ^ 64) ∷ fr.image v ∷ []))
      (thaw_some stands fr.image q (length old) v in_v on (λ c there is. let (cb, cs) = stands_in c there in fr.distinct c v cb cs bound s is))
    where
      bound_below : (v : ℕ) → is_bound old v ≡ true → v < length old
      bound_below v e = elim (old_or_new v (length old)) [ inl lt ↦ lt | inr le ↦ absurd (let n : true ≡ false = sym e ∙ ap is_bound_var (slice_get_past old v le) in cc) ]
  agrees q fixes v o false e = ap (replaced_by (thawed q)) (on_free old fr.image v e) ∙ sym (fixes v e)

  -- Where both copies have one type, the scheme covers the other.
  pub covered : HasInstance (scheme_at m1 V a) (V m) → V f ≡ apply (rigid_for old fr.image) (V w) → V m ≡ V f → CoversAt old V a w
  covered has frozen one = record { each = λ x h. each x h }
    where
      each : (x : Typ) → HasInstance (scheme_at old V w) x → HasInstance (scheme_at old V a) x
      each x (q, fixes, ex) =
          let (r, fixed, er) = has in
          let find = thawed q in
          let left : replaced_by find (apply r (V a)) ≡ apply (λ v. replaced_by find (r v)) (V a) = replaced_apply find r (V a) (left_in q a keeps_a ina) in
          let right : replaced_by find (apply (rigid_for old fr.image) (V w)) ≡ apply (λ v. replaced_by find (rigid_for old fr.image v)) (V w) = replaced_apply find (rigid_for old fr.image) (V w) (left_in q w keeps_w inw) in
          let both : apply r (V a) ≡ apply (rigid_for old fr.image) (V w) = sym er ∙ one ∙ frozen in
          let agree = apply_agree (λ v. replaced_by find (rigid_for old fr.image v)) q (V w) (λ v o. agrees q fixes v o (is_bound old v) refl) in
          ((λ v. replaced_by find (r v)), (λ v unbound. ap (replaced_by find) (fixed v (same_bound old m1 w f fr v ∙ unbound))), ex ∙ sym agree ∙ sym right ∙ ap (replaced_by find) (sym both) ∙ left)

-- After the attempt the readings are those at which the scheme covers the other, or there is none.
pub met : (old new : List Node) (a w level : ℕ) (t : Tried old new a w level true) → IsSound old → a < length old → w < length old → KeepsOutRigid old a → KeepsOutRigid old w → Met old new a w
met old new a w level t sound ina inw keeps_a keeps_w =
    let one = t.one refl in
    record {
      reads = λ V r.
          let (r2, same) = one.read V r in
          let (r1, has, unbound) = t.makes.reads V r2 in
          let (r0, frozen) = t.freezes.reads V r1 in
          (r0, covered old t.frozen t.both a w t.instance t.rigid level sound ina inw keeps_a keeps_w t.freezes t.makes V r0 has frozen same);
      read = λ V r c.
          let (W, r2, same, eq) = extends old t.frozen t.both a w t.instance t.rigid level ina inw t.freezes t.makes V r c in
          (W, one.reads W r2 eq, same);
    }

pub unmet : (old new : List Node) (a w level : ℕ) (t : Tried old new a w level false) → a < length old → w < length old → NeverCovers old a w
unmet old new a w level t ina inw = record {
  never = λ V r c.
      let (W, r2, same, eq) = extends old t.frozen t.both a w t.instance t.rigid level ina inw t.freezes t.makes V r c in
      (t.never refl).never W r2 eq;
}
