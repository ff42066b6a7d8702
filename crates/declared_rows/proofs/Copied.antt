-- A copy of a declaration's root: types that fit, by which its parameters have the types of the arguments, and which tell its unknown types apart.
use Rattle.std.proofs.Common.{◌≡◌, ◌≢◌, ◌∙◌, inl, inr, ℕ, zero, suc, ◌+◌, ◌<◌, ◌≤◌, true, List, [], ◌∷◌, length, map, Some, refl, sym, ap, subst, arith}
use Rattle.std.specs.Prelude.{slice_get, option_map}
use Rattle.std.proofs.lemmas.Bool.{eqb-true}
use Rattle.std.proofs.lemmas.Option.{slice_get_within, slice_get-map}
use Rattle.type_model.specs.Types.{Path, Typ, occurs}
use Rattle.type_model.specs.Types.{Typ as type, Typs as types}
use Rattle.type_model.specs.Substitutions.{Subst, apply}
use Rattle.type_model.specs.Limits.{no_scope, IsInScope}
use Rattle.type_model.proofs.Applying.{eqb_same, occurs_put, occurs_from}
use Rattle.type_nodes.specs.Nodes.{Node, Var, Rigid, Link, Arrow, Tuple, Con, bound_level, IsSound}
use Rattle.type_nodes.specs.Links.{root}
use Rattle.type_nodes.specs.Readings.{Types, Fits}
use Rattle.type_nodes.proofs.Roots.{root_inside, root_no_link}
use Rattle.level_unify.specs.Solutions.{Loose, FitsLoosely}
use Rattle.level_unify.specs.Instances.{SameTypes, Instantiated}
use Rattle.level_unify.proofs.Solving.{loose_root}
use Rattle.level_unify.proofs.Steps.{cell_at}
use Rattle.level_unify.proofs.Unified.{fits_loosely}
use Rattle.level_unify.proofs.Variants.{stands_occurs}
use Rattle.typing_conditions.specs.Locals.{IsOwn}
use Rattle.typing_conditions.specs.Declared.{IsNamed, a_parameter, an_unknown, RootAs}
use Rattle.typing_conditions.proofs.Steps.{old_or_new}
use Rattle.typing_conditions.proofs.Roots.{own_reads, named_bound}
use Rattle.typing_conditions.proofs.Taking.{agree_at, HasImages, instance_takes}
use Rattle.typing_rows.proofs.Declared.{node_at}
use Rattle.declared_rows.specs.Unknowns.{IsOther}
use Rattle.declared_rows.proofs.Parts.{HasParts, becomes_variable}

-- the argument of a parameter, and a variable with a number of its own for each unknown type
abbrev by_name : Types → List ℕ → Typ → ℕ → Typ
by_name I args (type.Var k) z = I (node_at args k)
by_name I args (type.Arrow a b) z = type.Var z
by_name I args (type.Tuple ts) z = type.Var z
by_name I args (type.Con o ts) z = type.Var z

-- a node whose own type is a variable is linked to it
pub root_is : (nodes : List Node) (K : Types) → IsSound nodes → IsOwn nodes K → (p m : ℕ) → p < length nodes → K p ≡ type.Var m → root nodes p ≡ m
root_is nodes K sound own p m lt is = by cell.0 cell.1 (own.loose.each (root nodes p) cell.0 cell.1)
  where
    cell : (c : Node) × (slice_get nodes (root nodes p) ≡ Some c)
    cell = cell_at nodes (root nodes p) (root_inside nodes sound p lt)

    at_root : K (root nodes p) ≡ type.Var m
    at_root = sym (loose_root nodes K own.loose p) ∙ is

    by : (c : Node) → slice_get nodes (root nodes p) ≡ Some c → FitsLoosely K (root nodes p) c → root nodes p ≡ m
    by (Var l o) e h = let f : type.Var (root nodes p) ≡ type.Var m = sym (own.vars (root nodes p) l o e) ∙ at_root in cc
    by Rigid e h = absurd (let f = sym h ∙ at_root in cc)
    by (Link k) e h = absurd (root_no_link nodes sound p (Link k) lt e)
    by (Arrow x y) e h = absurd (let f = sym h ∙ at_root in cc)
    by (Tuple ms) e h = absurd (let f = sym h ∙ at_root in cc)
    by (Con q name ms) e h = absurd (let f = sym h ∙ at_root in cc)

-- a list has a number at each place of it
pub number_at : (ms : List ℕ) (k : ℕ) → k < length ms → (m : ℕ) × (slice_get ms k ≡ Some m)
number_at [] k lt = absurd (omega arith)
number_at (m ∷ ms) zero lt = (m, refl)
number_at (m ∷ ms) (suc k) lt = number_at ms k (omega arith)

-- what is at a place of a mapped list
map_at : (f : ℕ → ℕ) (ms : List ℕ) (k y : ℕ) → slice_get (map f ms) k ≡ Some y → (m : ℕ) × (slice_get ms k ≡ Some m) × (f m ≡ y)
map_at f [] k y e = absurd (cc)
map_at f (m ∷ ms) zero y e = (m, refl, cc)
map_at f (m ∷ ms) (suc k) y e = map_at f ms k y e

pub node_there : (ms : List ℕ) (k m : ℕ) → slice_get ms k ≡ Some m → node_at ms k ≡ m
node_there [] k m e = absurd (cc)
node_there (n ∷ ms) zero m e = let f : n ≡ m = cc in f
node_there (n ∷ ms) (suc k) m e = node_there ms k m e

-- a variable that becomes an unknown type is the image of a variable of the root that has the name of one
pub record IsImage (k : ℕ) (I K N W : Types) (r : ℕ) (image : ℕ → ℕ) (m : ℕ) : Type 0 where
  pub variable : ℕ
  pub path : Path
  pub occurs : occurs variable (I r) ≡ true
  pub named : N variable ≡ type.Con path types.Nil
  pub own : K (image variable) ≡ type.Var m
  pub is : W m ≡ type.Var (k + variable)

-- Types for the nodes of a copy: its parameters have the types of the arguments; each of its other variables is a variable with a number of its own, and its image becomes an unknown type.
pub record CopyTypes (a b : List Node) (I K N : Types) (r tup : ℕ) (args ps : List ℕ) (image : ℕ → ℕ) : Type 0 where
  pub chosen : Types
  pub fits : Fits b chosen
  pub same : (m : ℕ) → m < length a → chosen m ≡ I m
  pub variables : (v : ℕ) → occurs v (I r) ≡ true → (w : ℕ) × (K (image v) ≡ type.Var w)
  pub of_parameter : (v k : ℕ) → occurs v (I r) ≡ true → N v ≡ type.Var k → chosen (image v) ≡ I (node_at args k)
  pub of_unknown : (v : ℕ) (o : Path) → occurs v (I r) ≡ true → N v ≡ type.Con o types.Nil → chosen (image v) ≡ type.Var (length a + v)
  pub parameters : (k p m : ℕ) → slice_get ps k ≡ Some p → slice_get args k ≡ Some m → chosen p ≡ chosen m
  pub others : (m : ℕ) (c : Node) → slice_get b m ≡ Some c → IsOther b tup ps m c → IsImage (length a) I K N chosen r image m
  pub since : (m : ℕ) (c : Node) → slice_get b m ≡ Some c → IsOther b tup ps m c → length a ≤ m
  pub any : (m : ℕ) (c : Node) → slice_get b m ≡ Some c → (x : IsOther b tup ps m c) → x.scope ≡ no_scope
  pub scoped : (m : ℕ) (c : Node) → slice_get b m ≡ Some c → IsOther b tup ps m c → IsInScope 0 (chosen m)
  pub images : (v w l s : ℕ) (path : Path) → occurs v (I r) ≡ true → N v ≡ type.Con path types.Nil → K (image v) ≡ type.Var w → slice_get b w ≡ Some (Var l s) → l ≢ bound_level → IsOther b tup ps w (Var l s)

module _ {a b : List Node} {I K N : Types} {C : List ℕ} {r level tup body : ℕ} {t : Typ} {whole : Typ} (args ps : List ℕ) (own_a : IsOwn a I) (own_b : IsOwn b K) (sound : IsSound b) (root_as : RootAs a C N (length args) r whole) (inst : Instantiated a b r level tup)
    (images : HasImages b I r tup) (inside : (k m : ℕ) → slice_get args k ≡ Some m → m < length a) (many : length ps ≡ length args) (nodes_in : (k p : ℕ) → slice_get ps k ≡ Some p → p < length b) (parts : HasParts b N images.image (I r) ps body t) where
  is_bound : (v : ℕ) → occurs v (I r) ≡ true → (scope : ℕ) × (slice_get a v ≡ Some (Var bound_level scope))
  is_bound v o = named_bound (root_as.named I own_a v o)

  -- types that fit, with any types for the variables of the root
  record Takes (u : Subst) : Type 0 where
    pub types : Types
    pub fits : Fits b types
    pub same : SameTypes a I types
    pub each : (v : ℕ) → occurs v (I r) ≡ true → types (images.image v) ≡ u v

  takes : (u : Subst) → Takes u
  takes u =
      let (W, fits, same, is) = instance_takes own_a inst is_bound u I (own_reads a I own_a).fits in
      record { types = W; fits = fits; same = same; each = λ v o. agree_at (λ x. W (images.image x)) u (I r) (sym (images.is W (fits_loosely b W fits)) ∙ is) v o }

  -- the images are variables
  image_variable : (v : ℕ) → occurs v (I r) ≡ true → (w : ℕ) × (K (images.image v) ≡ type.Var w)
  image_variable v o =
      let x = takes type.Var in
      becomes_variable x.types v (K (images.image v)) (sym (own_b.comes x.types (fits_loosely b x.types x.fits) (images.image v)) ∙ x.each v o)

  -- these: parameters have the types of the arguments, and unknown types have variables of their own
  abbrev chosen : Subst
  chosen v = by_name I args (N v) (length a + v)

  choice : Takes chosen
  choice = takes chosen

  W : Types
  W = choice.types

  fits_b : Fits b W
  unfolding W choice
  fits_b = choice.fits

  loose_b : Loose b W
  loose_b = fits_loosely b W fits_b

  same_a : (m : ℕ) → m < length a → W m ≡ I m
  unfolding W choice
  same_a m lt = choice.same m lt

  of_parameter : (v k : ℕ) → occurs v (I r) ≡ true → N v ≡ type.Var k → W (images.image v) ≡ I (node_at args k)
  unfolding W choice
  of_parameter v k o is = choice.each v o ∙ ap (λ name. by_name I args name (length a + v)) is

  of_unknown : (v : ℕ) (o : Path) → occurs v (I r) ≡ true → N v ≡ type.Con o types.Nil → W (images.image v) ≡ type.Var (length a + v)
  unfolding W choice
  of_unknown v o occ is = choice.each v occ ∙ ap (λ name. by_name I args name (length a + v)) is

  -- a variable of an older node is older
  older_var : (m v : ℕ) → m < length a → occurs v (I m) ≡ true → v < length a
  older_var m v lt o = let var = own_a.only m v lt o in slice_get_within a v (Var var.level var.scope) var.at

  -- the parameters have the types of the arguments
  parameter_is : (k p m : ℕ) → slice_get ps k ≡ Some p → slice_get args k ≡ Some m → W p ≡ W m
  parameter_is k p m e f =
      let x = parts.parameters k p e in
      x.is W loose_b ∙ of_parameter x.variable k x.occurs x.named ∙ ap I (node_there args k m f) ∙ sym (same_a m (inside k m f))

  own_image : (v m : ℕ) → K (images.image v) ≡ type.Var m → W m ≡ W (images.image v)
  own_image v m e = sym (own_b.comes W loose_b (images.image v) ∙ ap (apply W) e)

  other_is : (m : ℕ) (c : Node) → slice_get b m ≡ Some c → IsOther b tup ps m c → IsImage (length a) I K N W r images.image m
  other_is m c e x = by (occurs_from (λ v. K (images.image v)) m (I r) (ap (occurs m) (sym (images.is K own_b.loose)) ∙ stands))
    where
      stands : occurs m (K tup) ≡ true
      stands = stands_occurs b K m tup own_b.loose (own_b.vars m x.level x.scope (e ∙ ap (λ z. Some z) x.is)) x.stands

      named_as : (v : ℕ) → occurs v (I r) ≡ true → K (images.image v) ≡ type.Var m → IsNamed a N (length args) v → IsImage (length a) I K N W r images.image m
      named_as v o is (a_parameter scope k at scoped lt name) =
          let (p, f) = number_at ps k (omega arith) in
          let q = parts.parameters k p f in
          let same : q.variable ≡ v = root_as.apart I own_a q.variable v q.occurs o (q.named ∙ sym name) in
          let z = root_is b K sound own_b p m (nodes_in k p f) (q.is K own_b.loose ∙ ap (λ y. K (images.image y)) same ∙ is) in
          absurd (x.none (k, slice_get-map (root b) ps k ∙ ap (option_map (root b)) f ∙ ap (λ y. Some y) z))
      named_as v o is (an_unknown path at u name) = record { variable = v; path = path; occurs = o; named = name; own = is; is = own_image v m is ∙ of_unknown v path o name }

      by : (v : ℕ) × (occurs v (I r) ≡ true) × (occurs m (K (images.image v)) ≡ true) → IsImage (length a) I K N W r images.image m
      by (v, o, h) =
          let (w, is) = image_variable v o in
          let s : m ≡ w = eqb-true m w (ap (occurs m) (sym is) ∙ h) in
          named_as v o (is ∙ ap type.Var (sym s)) (root_as.named I own_a v o)

  -- it was made with the copy
  other_since : (m : ℕ) (c : Node) → slice_get b m ≡ Some c → IsOther b tup ps m c → length a ≤ m
  other_since m c e x = elim (old_or_new m (length a)) [
    | inr le ↦ le
    | inl lt ↦
        let i = other_is m c e x in
        let f : type.Var m ≡ type.Var (length a + i.variable) = sym (own_a.vars m x.level x.scope (sym (inst.extends.node m lt) ∙ e ∙ ap (λ z. Some z) x.is)) ∙ sym (same_a m lt) ∙ i.is in
        let g : m ≡ length a + i.variable = cc in omega arith
  ]

  -- and nothing limited it
  other_any : (m : ℕ) (c : Node) → slice_get b m ≡ Some c → (x : IsOther b tup ps m c) → x.scope ≡ no_scope
  other_any m c e x = (inst.vars m x.level x.scope (other_since m c e x) (e ∙ ap (λ z. Some z) x.is)).1

  -- its type is in the scope of unknown types
  other_scoped : (m : ℕ) (c : Node) → slice_get b m ≡ Some c → IsOther b tup ps m c → IsInScope 0 (W m)
  other_scoped m c e x = subst (IsInScope 0) (sym (other_is m c e x).is) tt

  -- The image of a variable with the name of an unknown type becomes one.
  image_other : (v w l s : ℕ) (path : Path) → occurs v (I r) ≡ true → N v ≡ type.Con path types.Nil → K (images.image v) ≡ type.Var w → slice_get b w ≡ Some (Var l s) → l ≢ bound_level → IsOther b tup ps w (Var l s)
  image_other v w l s path o named is e free = record {
    level = l;
    scope = s;
    is = refl;
    free = free;
    stands = own_b.stands tup w inst.inside (ap (occurs w) (images.is K own_b.loose) ∙ occurs_put (λ x. K (images.image x)) v w (I r) o (ap (occurs w) is ∙ eqb_same w));
    none = λ (k, at).
        let (p, f, z) = map_at (root b) ps k w at in
        let lt = slice_get_within ps k p f in
        let (m, g) = number_at args k (omega arith) in
        let own_p : K p ≡ type.Var w = loose_root b K own_b.loose p ∙ ap K z ∙ own_b.vars w l s e in
        let h : I m ≡ type.Var (length a + v) = sym (same_a m (inside k m g)) ∙ sym (parameter_is k p m f g) ∙ own_b.comes W loose_b p ∙ ap (apply W) own_p ∙ own_image v w is ∙ of_unknown v path o named in
        let below = older_var m (length a + v) (inside k m g) (ap (occurs (length a + v)) h ∙ eqb_same (length a + v)) in
        absurd (omega arith);
  }

  -- So a copy has such types.
  pub copy_types : CopyTypes a b I K N r tup args ps images.image
  copy_types = record {
    chosen = W;
    fits = fits_b;
    same = same_a;
    variables = image_variable;
    of_parameter = of_parameter;
    of_unknown = of_unknown;
    parameters = parameter_is;
    others = other_is;
    since = other_since;
    any = other_any;
    scoped = other_scoped;
    images = image_other;
  }
