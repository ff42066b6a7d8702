-- The use of a label in a record: what stands in the record's type is chosen with the record, and all else with the label.
use Rattle.std.proofs.Common.{◌≡◌, ◌∙◌, inl, inr, ℕ, suc, Bool, true, false, Some, List, refl, sym, ap, subst, if◌then◌else◌}
use Rattle.std.proofs.lemmas.Slice.Eq.{bytes_eq-Decides}
use Rattle.type_model.specs.Types.{Path, Typ, Typs, occurs, occurs_any}
use Rattle.type_model.specs.Types.{Typ as type, Typs as types}
use Rattle.type_model.specs.Origins.{same_path}
use Rattle.type_model.specs.Substitutions.{Subst, apply}
use Rattle.type_model.proofs.Applying.{or_left, or_right, or_cases, eqb_same}
use Rattle.type_print_model.specs.Printing.{mentions, mentions_any}
use Rattle.signature_model.specs.Matching.{is_unknown, all_used, IsKnown}
use Rattle.typing_model.specs.Contexts.{Choice}
use Rattle.typing_model.specs.Records.{label_argument, label_filled, used_in_record}
use Rattle.type_nodes.specs.Nodes.{Node, Arrow}
use Rattle.type_nodes.specs.Links.{reading}
use Rattle.type_nodes.specs.Readings.{Types}
use Rattle.level_unify.specs.Solutions.{Loose}
use Rattle.typing_conditions.specs.Declared.{IsNamed, a_parameter, an_unknown, RootAs}
use Rattle.typing_conditions.specs.Sights.{Sight, Key, own, letter, filled, value_of, Letters, IsKnownFor, AreGiven}
use Rattle.typing_conditions.specs.Frames.{Frame}
use Rattle.typing_conditions.specs.Carrying.{Scope}
use Rattle.typing_conditions.proofs.Taking.{agree_at, used_named}
use Rattle.typing_steps.specs.Building.{used_by}
use Rattle.typing_steps.proofs.Images.{arrow_inside}
use Rattle.typing_steps.proofs.Covering.{all_in, side_covers, in_all}
use Rattle.typing_steps.proofs.Sides.{arrow_is}
use Rattle.typing_steps.proofs.Used.{UsedWith}

-- what is chosen for a name in the use of a label at a node m, in a record at a node n
abbrev pub key_in : ℕ → ℕ → Typ → Typ → Key
key_in n m owner (type.Var k) = if occurs k owner then letter n k else letter m (suc k)
key_in n m owner (type.Arrow a b) = own n
key_in n m owner (type.Tuple ts) = own n
key_in n m owner (type.Con o ts) = if mentions o owner then filled n o else filled m o

-- unknown types are allowed in it
pub known_in : (n m : ℕ) (owner name t : Typ) → IsKnownFor (key_in n m owner name) t
known_in n m owner (type.Var k) t = by (occurs k owner)
  where
    by : (b : Bool) → IsKnownFor (if b then letter n k else letter m (suc k)) t
    by true = tt
    by false = tt
known_in n m owner (type.Arrow a b) t = tt
known_in n m owner (type.Tuple ts) t = tt
known_in n m owner (type.Con o ts) t = by (mentions o owner)
  where
    by : (b : Bool) → IsKnownFor (if b then filled n o else filled m o) t
    by true = tt
    by false = tt

-- and it is what the name is used as
pub named_in : {nodes : List Node} {N : Types} {arity v : ℕ} (n m : ℕ) (owner : Typ) (ch : Choice) → IsNamed nodes N arity v → value_of ch (key_in n m owner (N v)) ≡ used_in_record n m owner (N v) ch
named_in n m owner ch (a_parameter scope k e other lt is) = ap (λ x. value_of ch (key_in n m owner x)) is ∙ by (occurs k owner) ∙ sym (ap (λ x. used_in_record n m owner x ch) is)
  where
    by : (b : Bool) → value_of ch (if b then letter n k else letter m (suc k)) ≡ (if b then ch.letter n k else ch.letter m (suc k))
    by true = refl
    by false = refl
named_in n m owner ch (an_unknown o e u is) =
    ap (λ x. value_of ch (key_in n m owner x)) is ∙ by (mentions o owner) ∙ sym (ap (λ x. used_in_record n m owner x ch) is ∙ ap (λ b. if b then label_filled ch n m owner o else type.Con o types.Nil) u)
  where
    by : (b : Bool) → value_of ch (if b then filled n o else filled m o) ≡ (if b then ch.filled n o else ch.filled m o)
    by true = refl
    by false = refl

mutual
  -- what stands in the record's type is used as it is with the record
  part_in : (n m : ℕ) (owner : Typ) (ch : Choice) (t : Typ) → ((v : ℕ) → occurs v t ≡ true → occurs v owner ≡ true) → ((o : Path) → mentions o t ≡ true → mentions o owner ≡ true) → used_in_record n m owner t ch ≡ used_by n t ch
  part_in n m owner ch (type.Var v) vars paths = ap (λ b. if b then ch.letter n v else ch.letter m (suc v)) (vars v (eqb_same v))
  part_in n m owner ch (type.Arrow a b) vars paths =
      let p = part_in n m owner ch a (λ v h. vars v (or_left (occurs v a) (occurs v b) h)) (λ o h. paths o (or_left (mentions o a) (mentions o b) h)) in
      let q = part_in n m owner ch b (λ v h. vars v (or_right (occurs v a) (occurs v b) h)) (λ o h. paths o (or_right (mentions o a) (mentions o b) h)) in
      (λ i. type.Arrow (p i) (q i))
  part_in n m owner ch (type.Tuple ts) vars paths = ap type.Tuple (parts_in n m owner ch ts vars paths)
  part_in n m owner ch (type.Con c ts) vars paths =
      let here : mentions c owner ≡ true = paths c (or_left (same_path c c) (mentions_any c ts) ((bytes_eq-Decides c c).1 refl)) in
      let p = parts_in n m owner ch ts vars (λ o h. paths o (or_right (same_path o c) (mentions_any o ts) h)) in
      let f = ap (λ b. if b then ch.filled n c else ch.filled m c) here in
      (λ i. if is_unknown c then f i else type.Con c (p i))

  parts_in : (n m : ℕ) (owner : Typ) (ch : Choice) (ts : Typs) → ((v : ℕ) → occurs_any v ts ≡ true → occurs v owner ≡ true) → ((o : Path) → mentions_any o ts ≡ true → mentions o owner ≡ true) →
      all_used (label_argument ch n m owner) (label_filled ch n m owner) ts ≡ all_used (ch.letter n) (ch.filled n) ts
  parts_in n m owner ch types.Nil vars paths = refl
  parts_in n m owner ch (types.Cons t ts) vars paths =
      let p = part_in n m owner ch t (λ v h. vars v (or_left (occurs v t) (occurs_any v ts) h)) (λ o h. paths o (or_left (mentions o t) (mentions_any o ts) h)) in
      let q = parts_in n m owner ch ts (λ v h. vars v (or_right (occurs v t) (occurs_any v ts) h)) (λ o h. paths o (or_right (mentions o t) (mentions_any o ts) h)) in
      (λ i. types.Cons (p i) (q i))

-- and so is the record's type
pub owner_in : (n m : ℕ) (owner : Typ) (ch : Choice) → used_in_record n m owner owner ch ≡ used_by n owner ch
owner_in n m owner ch = part_in n m owner ch owner (λ v h. h) (λ o h. h)

-- Where each variable of the field's type stands in the record's, the letters of an instance have their types wherever the record's side has the type of the record.
pub sides_imply : {F : Frame} {scope : Scope} {a b : Sight} {G : Letters} {C : List ℕ} {N : Types} {arity root m : ℕ} (n field : ℕ) (owner body : Typ) (as_root : RootAs a.nodes C N arity root (type.Arrow owner body))
    (uses : UsedWith (λ v. key_in n field owner (N v)) F scope a G b root (used_in_record n field owner (type.Arrow owner body)) m) → side_covers (uses.types root) ≡ true → (from to : ℕ) → reading b.nodes m ≡ Some (Arrow from to) →
    (V : Types) (ch : Choice) → Loose b.nodes V → used_by n owner ch ≡ V from → AreGiven uses.letters V ch
sides_imply {b = b} {N = N} {root = root} {m = m} n field owner body as_root uses covers from to reads V ch loose is =
    let (p, q, inside) = arrow_inside owner body refl as_root uses.own_types in
    let s : Subst = λ v. used_in_record n field owner (N v) ch in
    let u : Subst = λ v. V (uses.image v) in
    let known : IsKnown (type.Arrow p q) = subst IsKnown inside (as_root.known uses.types uses.own_types) in
    let named : type.Arrow owner body ≡ type.Arrow (apply N p) (apply N q) = as_root.is uses.types uses.own_types ∙ ap (apply N) inside in
    let left : owner ≡ apply N p = cc in
    let copy : type.Arrow (V from) (V to) ≡ type.Arrow (apply u p) (apply u q) = sym (arrow_is b.nodes V m from to loose reads) ∙ uses.copy V loose ∙ ap (apply u) inside in
    let side : V from ≡ apply u p = cc in
    let both : apply s p ≡ apply u p = sym (used_named (label_argument ch n field owner) (label_filled ch n field owner) N p known.0) ∙ ap (λ t. used_in_record n field owner t ch) (sym left) ∙ owner_in n field owner ch ∙ is ∙ side in
    let right : all_in p q ≡ true = sym (ap side_covers inside) ∙ covers in
    uses.given V ch (λ v o.
    named_in n field owner ch (as_root.named uses.types uses.own_types v o) ∙
    elim (or_cases (occurs v p) (occurs v q) (sym (ap (occurs v) inside) ∙ o)) [ inl i ↦ agree_at s u p both v i | inr i ↦ agree_at s u p both v (in_all p q right v i) ])
