-- A node whose own type is that of a declaration, with types in the place of its parameters: an instance of the declaration's root is one, and so it is later on.
use Rattle.std.proofs.Common.{◌≡◌, ◌∙◌, ℕ, zero, suc, ◌+◌, ◌<◌, ◌==◌, ◌||◌, if◌then◌else◌, Bool, true, false, List, refl, sym, ap, subst, arith}
use Rattle.std.proofs.lemmas.Bool.{eqb-true}
use Rattle.type_model.specs.Types.{Path, Typ, Typs, occurs, occurs_any}
use Rattle.type_model.specs.Types.{Typ as type, Typs as types}
use Rattle.type_model.specs.Substitutions.{Subst, apply, apply_all, after}
use Rattle.type_model.proofs.Applying.{or_left, or_right, eqb_same, apply_agree, apply-apply, occurs_put, occurs_from}
use Rattle.signature_model.specs.Changes.{argument}
use Rattle.signature_model.specs.Declarations as rules
use Rattle.signature_model.specs.Declarations.{type_of, defined_type, parameters_from}
use Rattle.typing_laws.proofs.Bools.{no_yes}
use Rattle.type_nodes.specs.Nodes.{Node, Var, bound_level}
use Rattle.type_nodes.specs.Readings.{Types, IsReading}
use Rattle.level_unify.specs.Instances.{is_bound, SameTypes, Instantiated}
use Rattle.level_unify.proofs.Variants.{bound_there}
use Rattle.typing_conditions.specs.Locals.{IsOwn}
use Rattle.typing_conditions.specs.Declared.{IsNamed, a_parameter, an_unknown, NoneUnknown, RootAs}
use Rattle.typing_conditions.specs.Frames.{Frame, Reaches}
use Rattle.typing_conditions.specs.Sights.{Sight, Letters}
use Rattle.typing_conditions.specs.Carrying.{Stays}
use Rattle.typing_conditions.proofs.Own.{own_of}
use Rattle.typing_conditions.proofs.Roots.{own_reads, named_bound}
use Rattle.typing_steps.proofs.Images.{arrow_inside}
use Rattle.record_steps.specs.Recording.{IsPlainlyOwn, IsUseOf}

-- A type is that of a part of a root whose named type this is, with other types in the place of its variables.
pub record IsPartOf (I N : Types) (root : ℕ) (t x : Typ) : Type 0 where
  pub part : Typ
  pub stands : (v : ℕ) → occurs v part ≡ true → occurs v (I root) ≡ true
  pub named : apply N part ≡ t
  pub put : Subst
  pub is : x ≡ apply put part

-- types in the place of those that have parameters as their names are arguments in the place of parameters
arguments_are : (N put s : Subst) (us : Typs) (j k : ℕ) → apply_all N us ≡ parameters_from j k → ((i : ℕ) → s (j + i) ≡ argument (apply_all put us) i) → apply_all put us ≡ apply_all s (parameters_from j k)
arguments_are N put s types.Nil j zero e h = refl
arguments_are N put s types.Nil j (suc k) e h = absurd (cc)
arguments_are N put s (types.Cons u us) j zero e h = absurd (cc)
arguments_are N put s (types.Cons u us) j (suc k) e h =
    let f : types.Cons (apply N u) (apply_all N us) ≡ types.Cons (type.Var j) (parameters_from (j + 1) k) = e in
    let g : apply_all N us ≡ parameters_from (j + 1) k = cc in
    let first : apply put u ≡ s j = sym (ap s (let z : j ≡ j + 0 = omega arith in z) ∙ h 0) in
    let later = arguments_are N put s us (j + 1) k g (λ i. ap s (let z : j + 1 + i ≡ j + suc i = omega arith in z) ∙ h (suc i)) in
    (λ i. types.Cons (first i) (later i))

-- what has a constructor over parameters as its named type is one over arguments
use_of_part : {nodes : List Node} {N : Types} {arity : ℕ} (o : Path) (k : ℕ) (put : Subst) (u : Typ) → NoneUnknown N → ((v : ℕ) → occurs v u ≡ true → IsNamed nodes N arity v) → apply N u ≡ type.Con o (parameters_from 0 k) →
    (s : Subst) × (apply put u ≡ apply s (type.Con o (parameters_from 0 k)))
use_of_part {nodes} {N} {arity} o k put (type.Var v) plain named is = absurd (never (named v (eqb_same v)))
  where
    never : IsNamed nodes N arity v → ⊥
    never (a_parameter scope j at other lt name) = let h : type.Var j ≡ type.Con o (parameters_from 0 k) = sym name ∙ is in cc
    never (an_unknown c at u name) = plain v c u name
use_of_part {N = N} o k put (type.Arrow a b) plain named is = absurd (let h : type.Arrow (apply N a) (apply N b) ≡ type.Con o (parameters_from 0 k) = is in cc)
use_of_part {N = N} o k put (type.Tuple ts) plain named is = absurd (let h : type.Tuple (apply_all N ts) ≡ type.Con o (parameters_from 0 k) = is in cc)
use_of_part {N = N} o k put (type.Con c us) plain named is =
    let h : type.Con c (apply_all N us) ≡ type.Con o (parameters_from 0 k) = is in
    let same : c ≡ o = cc in
    let listed : apply_all N us ≡ parameters_from 0 k = cc in
    let given = arguments_are N put (argument (apply_all put us)) us 0 k listed (λ i. ap (argument (apply_all put us)) (let z : 0 + i ≡ i = omega arith in z)) in
    (argument (apply_all put us), (λ i. type.Con (same i) (given i)))

-- so a part of an instance that has the type of a declaration of its own is a use of it
pub part_used : {nodes : List Node} {I N : Types} {arity root : ℕ} {x : Typ} (e : rules.Declaration) → IsPlainlyOwn N e → ((v : ℕ) → occurs v (I root) ≡ true → IsNamed nodes N arity v) → IsPartOf I N root (type_of e) x → (s : Subst) × (x ≡ apply s (type_of e))
part_used e own named part =
    let (o, is) = own.own in
    let type_is : type_of e ≡ type.Con o (parameters_from 0 e.arity) = ap (defined_type e.arity) is in
    let (s, used) = use_of_part o e.arity part.put part.part own.plain (λ v h. named v (part.stands v h)) (part.named ∙ type_is) in
    (s, part.is ∙ used ∙ ap (apply s) (sym type_is))

-- a node that is a use of a declaration is so later on
pub use_on : {F : Frame} {a b : Sight} {G H : Letters} (e : rules.Declaration) (m : ℕ) → Stays F a G b H → Reaches F a → IsUseOf a e m → IsUseOf b e m
use_on {a = a} e m stays reached is_use K own_b =
    let own_a = own_of a.nodes reached.sound in
    let (s, is) = is_use own_a.0 own_a.1 in
    (after K s, own_a.1.comes K (stays.loose K own_b.loose) m ∙ ap (apply K) is ∙ apply-apply K s (type_of e))

-- types in the place of bound variables, by their names
abbrev put_named : List Node → Types → Subst → Subst
put_named nodes N s v = if is_bound nodes v then apply s (N v) else type.Var v

-- Types in the place of parameters are those of a reading after an instance of the root was taken, where no bound variable stands in them.
pub instance_read : {old new : List Node} {I N : Types} {C : List ℕ} {arity root level m : ℕ} {t : Typ} → IsOwn old I → RootAs old C N arity root t → Instantiated old new root level m → (s : Subst) → ((v : ℕ) → is_bound old v ≡ true → occurs v (apply s t) ≡ false) →
    (W : Types) × IsReading new W × SameTypes old I W × (W m ≡ apply s t)
instance_read {old = old} {I = I} {N = N} {root = root} {t = t} before as_root taken s unbound = taken.read I (apply s t) (own_reads old I before) (put_named old N s, (λ v free. ap (λ b. if b then apply s (N v) else type.Var v) free), is) unbound
  where
    at_bound : (v : ℕ) → occurs v (I root) ≡ true → put_named old N s v ≡ apply s (N v)
    at_bound v o = let (scope, e) = named_bound (as_root.named I before v o) in ap (λ b. if b then apply s (N v) else type.Var v) (bound_there old v (Var bound_level scope) e refl)

    is : apply s t ≡ apply (put_named old N s) (I root)
    is = ap (apply s) (as_root.is I before) ∙ apply-apply s N (I root) ∙ sym (apply_agree (put_named old N s) (after s N) (I root) at_bound)

-- a parameter stands among as many
parameter_in : (j k i : ℕ) → i < k → occurs_any (j + i) (parameters_from j k) ≡ true
parameter_in j zero i lt = absurd (omega arith)
parameter_in j (suc k) zero lt = or_left (occurs (j + 0) (type.Var j)) (occurs_any (j + 0) (parameters_from (j + 1) k)) (ap (λ z. z == j) (let e : j + 0 ≡ j = omega arith in e) ∙ eqb_same j)
parameter_in j (suc k) (suc i) lt = or_right (occurs (j + suc i) (type.Var j)) (occurs_any (j + suc i) (parameters_from (j + 1) k)) (ap (λ z. occurs_any z (parameters_from (j + 1) k)) (let e : j + suc i ≡ j + 1 + i = omega arith in e) ∙ parameter_in (j + 1) k i (omega arith))

-- What stands in a field's type with types in the place of parameters stands in the record's, where that is a type of its own: so nothing bound does.
pub sides_unbound : {nodes : List Node} {I N : Types} {C : List ℕ} {arity root : ℕ} {e : rules.Declaration} {body : Typ} → IsPlainlyOwn N e → arity ≡ e.arity → RootAs nodes C N arity root (type.Arrow (type_of e) body) → IsOwn nodes I → (s : Subst) (v : ℕ) →
    occurs v (apply s (type_of e)) ≡ false → occurs v (type.Arrow (apply s (type_of e)) (apply s body)) ≡ false
sides_unbound {nodes} {I} {N} {C} {arity} {root} {e} {body} plainly many as_root own s v none = by (occurs v (apply s body)) refl
  where
    -- a variable of the field's type is a parameter
    is_parameter : (w : ℕ) → occurs w body ≡ true → w < e.arity
    is_parameter w o =
        let (p, q, inside) = arrow_inside (type_of e) body refl as_root own in
        let sides : type.Arrow (type_of e) body ≡ type.Arrow (apply N p) (apply N q) = as_root.is I own ∙ ap (apply N) inside in
        let right : body ≡ apply N q = cc in
        let (u, there, from) = occurs_from N w q (ap (occurs w) (sym right) ∙ o) in
        named u w (as_root.named I own u (ap (occurs u) inside ∙ or_right (occurs u p) (occurs u q) there)) from
      where
        named : (u w : ℕ) → IsNamed nodes N arity u → occurs w (N u) ≡ true → w < e.arity
        named u w (a_parameter scope k at other lt is) h = let same : w ≡ k = eqb-true w k (ap (occurs w) (sym is) ∙ h) in subst (λ z. z < e.arity) (sym same) (subst (λ z. k < z) many lt)
        named u w (an_unknown c at unknown is) h = absurd (no_yes (ap (occurs w) (sym is) ∙ h))

    by : (b : Bool) → occurs v (apply s body) ≡ b → occurs v (type.Arrow (apply s (type_of e)) (apply s body)) ≡ false
    by false h = (λ i. none i || h i)
    by true h =
        let (w, there, from) = occurs_from s v body h in
        let type_is : type_of e ≡ type.Con plainly.own.0 (parameters_from 0 e.arity) = ap (defined_type e.arity) plainly.own.1 in
        let stands : occurs w (type_of e) ≡ true = ap (occurs w) type_is ∙ ap (λ z. occurs_any z (parameters_from 0 e.arity)) (let z : w ≡ 0 + w = omega arith in z) ∙ parameter_in 0 e.arity w (is_parameter w there) in
        absurd (no_yes (sym none ∙ occurs_put s w v (type_of e) stands from))
