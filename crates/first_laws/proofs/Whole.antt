-- After a declaration as a whole, with its roots, the names are those of before with its own.
use Rattle.std.proofs.Common.{◌≡◌, ◌∙◌, ℕ, zero, suc, ◌<◌, ◌≤◌, nat_lt, ◌&&◌, Bool, true, false, List, [], ◌∷◌, ◌++◌, length, Some, refl, sym, ap, subst, arith, if◌then◌else◌}
use Rattle.std.specs.Prelude.{slice_get}
use Rattle.std.proofs.lemmas.Option.{slice_get_within}
use Rattle.type_model.specs.Types.{Path, Typ, occurs}
use Rattle.type_model.specs.Types.{Typ as type, Typs as typs}
use Rattle.type_model.specs.Substitutions.{apply}
use Rattle.type_model.proofs.Applying.{apply_leaves}
use Rattle.signature_model.specs.Entries.{Environment}
use Rattle.signature_model.specs.Matching.{IsKnown}
use Rattle.typing_laws.proofs.Bools.{no_yes}
use Rattle.typing_model.specs.Contexts.{Choice}
use Rattle.type_nodes.specs.Nodes.{IsSound}
use Rattle.type_nodes.specs.Readings.{Types, IsReading}
use Rattle.type_nodes.proofs.Lists.{get-append_left}
use Rattle.env_table.specs.declared.entries.Entry.{Entry}
use Rattle.typing_conditions.specs.Locals.{IsPlain, IsOwn, ClosesAll, stands_in_any}
use Rattle.typing_conditions.specs.Standing.{IsIn}
use Rattle.typing_conditions.specs.Environments.{EnvAs}
use Rattle.typing_conditions.specs.Declared.{UnknownApart, NoneUnknown, RootAs, DeclaredAs, ExceptionAs}
use Rattle.typing_conditions.specs.Sights.{Sight, Letters}
use Rattle.typing_conditions.specs.Frames.{Frame, IsOpen}
use Rattle.typing_conditions.proofs.Regions.{any_in, in_any}
use Rattle.typing_conditions.proofs.Own.{own_of}
use Rattle.typing_conditions.proofs.Closing.{own_reopened}
use Rattle.typing_conditions.proofs.Roots.{named_bound}
use Rattle.typing_steps.specs.Typing.{as_declared}
use Rattle.binding_rows.specs.Outside.{AreOf, Outside}
use Rattle.declared_rows.specs.Assignments.{IsAssigned, a_parameter, an_unknown, Assignment, Assigned, Denotes, IsDeclaring}
use Rattle.declared_rows.proofs.Made.{last_path}
use Rattle.declared_rows.proofs.Closed.{root_closed, refines_declared, reads_declared}
use Rattle.declared_rows.proofs.Starting.{declaring_frame, declaring}
use Rattle.first_laws.specs.Declaring.{NoneTyped, OnlyTypes, AreBoundIn, SpecifiedAs, AddsKnown, Declares, StartsAfter}
use Rattle.first_laws.proofs.Declared.{outside_declared, declared_older, declared_grows, declared_known}
use Rattle.first_laws.proofs.Specified.{known_there}

-- the names of the variables of a state, and further ones for those that are made
abbrev pub further : ℕ → Types → Types → Types
further k N S v = if nat_lt v k then N v else S v

below : (v k : ℕ) → v < k → nat_lt v k ≡ true
below v k lt = grind arith

not_below : (v k : ℕ) → k ≤ v → nat_lt v k ≡ false
not_below v k le = grind arith

further_old : (k : ℕ) (N S : Types) (v : ℕ) → v < k → further k N S v ≡ N v
further_old k N S v lt = ap (λ (b : Bool). if b then N v else S v) (below v k lt)

further_new : (k : ℕ) (N S : Types) (v : ℕ) → k ≤ v → further k N S v ≡ S v
further_new k N S v le = ap (λ (b : Bool). if b then N v else S v) (not_below v k le)

-- types at some variables; every other one is its own name
abbrev pub only_at : (ℕ → Bool) → Types → Types
only_at test S v = if test v then S v else type.Var v

only_there : (test : ℕ → Bool) (S : Types) (v : ℕ) → test v ≡ true → only_at test S v ≡ S v
only_there test S v h = ap (λ (b : Bool). if b then S v else type.Var v) h

-- an unknown type is the name of one of these alone
there_alone : (test : ℕ → Bool) (S : Types) (v : ℕ) (o : Path) → only_at test S v ≡ type.Con o typs.Nil → (test v ≡ true) × (S v ≡ type.Con o typs.Nil)
there_alone test S v o = by (test v) refl
  where
    by : (b : Bool) → test v ≡ b → (if b then S v else type.Var v) ≡ type.Con o typs.Nil → (test v ≡ true) × (S v ≡ type.Con o typs.Nil)
    by true h e = (h, e)
    by false h e = absurd (cc)

in_first : (R C : List ℕ) (r : ℕ) → IsIn R r → IsIn (R ++ C) r
in_first R C r (k, e) = (k, get-append_left R C k (slice_get_within R k r e) ∙ e)

-- a node that denotes some type
pub record DenotesSome (F : Frame) (arity : ℕ) (U : List ℕ) (a b : Sight) (A : Assignment) (x : Assigned F arity U a b A) (r : ℕ) : Type 0 where
  pub type : Typ
  pub denotes : Denotes x.after r type

-- a node alone that denotes a type
pub one_denotes : {F : Frame} {arity : ℕ} {U : List ℕ} {a b : Sight} {A : Assignment} (x : Assigned F arity U a b A) {r : ℕ} (t : Typ) → Denotes x.after r t → (k s : ℕ) → slice_get (r ∷ []) k ≡ Some s → DenotesSome F arity U a b A x s
one_denotes x {r} t denotes zero s e = let g : r ≡ s = cc in record { type = t; denotes = subst (λ m. Denotes x.after m t) g denotes }
one_denotes x t denotes (suc k) s e = absurd (cc)

-- which is that type
pub one_type : {F : Frame} {arity : ℕ} {U : List ℕ} {a b : Sight} {A : Assignment} (x : Assigned F arity U a b A) {r : ℕ} (t : Typ) (denotes : Denotes x.after r t) (k s : ℕ) (e : slice_get (r ∷ []) k ≡ Some s) → (one_denotes x t denotes k s e).type ≡ t
unfolding one_denotes
one_type x t denotes zero s e = refl
one_type x t denotes (suc k) s e = absurd (cc)

-- A declaration over so many parameters: from the state a between items to b, the one before its variables are bound, and c, the one after; its roots R denote types,
-- n is a node without variables, as that of the type of exceptions.
module _ {a b : Sight} (c : Sight) {G : Letters} {env : List Entry} {E : Choice → Environment} (at : Outside as_declared a G env E) (I : Types) (own : IsOwn a.nodes I) (n : ℕ) (n_inside : n < length a.nodes) (none : (v : ℕ) → occurs v (I n) ≡ true → ⊥)
    {start : Sight} (from : start.nodes ≡ a.nodes) {arity : ℕ} {U : List ℕ} (x : Assigned (declaring_frame a I at.roots n) arity U start b (record { types = I; nodes = n ∷ []; older = at.older }))
    (R : List ℕ) (denote : (k r : ℕ) → slice_get R k ≡ Some r → DenotesSome (declaring_frame a I at.roots n) arity U start b (record { types = I; nodes = n ∷ []; older = at.older }) x r) (closes : (K : Types) → IsOwn b.nodes K → ClosesAll b.nodes c.nodes K R 0) (plain : IsPlain c.nodes)
    (sound : IsSound c.nodes) (level : c.level ≡ a.level) (types : NoneTyped a c) where
  is_declaring : IsDeclaring (declaring_frame a I at.roots n)
  is_declaring = declaring a I own at.roots (at.context I own).inside n n_inside none

  opens : (k s : ℕ) → slice_get R k ≡ Some s → IsOpen (declaring_frame a I at.roots n) b s
  opens k s e = x.assigns.opens s (denote k s e).denotes.known

  -- types were made alone
  pub whole_types : OnlyTypes a c
  whole_types = record {
    sound = sound;
    level = level;
    types = types.types;
    noted = types.noted;
    scopes = types.scopes;
    refines = λ K own_c. refines_declared is_declaring x.assigns closes opens K own_c;
    reads = λ V h. reads_declared is_declaring x.assigns closes opens (λ W g. subst (λ ns. IsReading ns W) from (x.reads W g)) V h;
  }

  -- the own types of the nodes after, which are those of before the variables were bound too
  abbrev own_after : Types
  own_after = (own_of c.nodes sound).0

  own_c : IsOwn c.nodes own_after
  own_c = (own_of c.nodes sound).1

  own_b : IsOwn b.nodes own_after
  own_b = let (J, own_j) = own_of b.nodes x.assigns.reached.sound in own_reopened b.nodes c.nodes J own_after R 0 own_c (closes J own_j)

  -- the names of all variables: those of before, and those that the roots denote
  abbrev pub names : Types
  names = further (length a.nodes) at.names (only_at (stands_in_any own_after R) x.after.types)

  -- a variable of the roots has the name that it is assigned
  root_named : (K : Types) → IsOwn c.nodes K → (v : ℕ) → length a.nodes ≤ v → stands_in_any K R v ≡ true → names v ≡ x.after.types v
  root_named K own_k v le h =
      let y = in_any v K R h in
      let same : own_after y.node ≡ K y.node = own_k.comes own_after own_c.loose y.node ∙ apply_leaves own_after (K y.node) (λ w o. let u = own_k.only y.node w (inside y.place y.node y.at) o in own_c.vars w u.level u.scope u.at) in
      further_new (length a.nodes) at.names (only_at (stands_in_any own_after R) x.after.types) v le ∙ only_there (stands_in_any own_after R) x.after.types v (any_in v own_after R y.place y.node y.at (ap (occurs v) same ∙ y.occurs))
    where
      inside : (k r : ℕ) → slice_get R k ≡ Some r → r < length c.nodes
      inside k r e = let lt = (opens k r e).inside in let l = (closes own_after own_b).len in omega arith

  -- an unknown type of one of the type expressions U that is no older one
  record MadeHere (o : Path) : Type 0 where
    front : Path
    number : ℕ
    listed : IsIn U number
    new : IsIn at.older number → ⊥
    is : o ≡ front ++ number ∷ []

  -- such a variable that is made is one of the assignment, and if it has an unknown type as its name, that is made here
  made_known : (v : ℕ) → stands_in_any own_after R v ≡ true → stands_in_any own_after x.after.nodes v ≡ true
  made_known v h = let y = in_any v own_after R h in let (k, e) = (denote y.place y.node y.at).denotes.known in any_in v own_after x.after.nodes k y.node e y.occurs

  made_unknown : (v : ℕ) (o : Path) → stands_in_any own_after R v ≡ true → x.after.types v ≡ type.Con o typs.Nil → MadeHere o
  made_unknown v o h e =
      let y = in_any v own_after R h in
      let low = (opens y.place y.node y.at).free own_after own_b v y.occurs in
      by (x.assigns.each own_after own_b v low.level low.scope (made_known v h) low.at)
    where
      by : {scope : ℕ} → IsAssigned x.after.types x.after.older U arity scope v → MadeHere o
      by (a_parameter k scoped lt is) = absurd (let f : type.Con o typs.Nil ≡ type.Var k = sym e ∙ is in cc)
      by (an_unknown p m scope unknown i new is) = let f : type.Con o typs.Nil ≡ type.Con (p ++ m ∷ []) typs.Nil = sym e ∙ is in record { front = p; number = m; listed = i; new = λ j. new (subst (λ ks. IsIn ks m) (sym x.older) j); is = cc }

  -- So no two variables have one unknown type as their name.
  names_apart : UnknownApart names
  names_apart v w o unknown e f = by (nat_lt v (length a.nodes)) (nat_lt w (length a.nodes)) e f
    where
      N : Types
      N = only_at (stands_in_any own_after R) x.after.types

      mixed : (u s : ℕ) → at.names u ≡ type.Con o typs.Nil → N s ≡ type.Con o typs.Nil → ⊥
      mixed u s g h =
          let (i, is) = there_alone (stands_in_any own_after R) x.after.types s o h in
          let m = made_unknown s o i is in
          m.new (at.unknown u m.number m.front (g ∙ ap (λ q. type.Con q typs.Nil) m.is))

      by : (i j : Bool) → (if i then at.names v else N v) ≡ type.Con o typs.Nil → (if j then at.names w else N w) ≡ type.Con o typs.Nil → v ≡ w
      by true true g h = at.apart v w o unknown g h
      by true false g h = absurd (mixed v w g h)
      by false true g h = absurd (mixed w v h g)
      by false false g h =
          let (i, is) = there_alone (stands_in_any own_after R) x.after.types v o g in
          let (j, js) = there_alone (stands_in_any own_after R) x.after.types w o h in
          x.assigns.apart own_after own_b v w (made_known v i) (made_known w j) (is ∙ sym js)

  -- The unknown types among all names are those of U.
  names_of : AreOf U names
  names_of v m o e = by (nat_lt v (length a.nodes)) e
    where
      by : (i : Bool) → (if i then at.names v else only_at (stands_in_any own_after R) x.after.types v) ≡ type.Con (o ++ m ∷ []) typs.Nil → IsIn U m
      by true g = x.assigns.taken m (subst (λ ks. IsIn ks m) (sym x.older) (at.unknown v m o g))
      by false g =
          let (i, is) = there_alone (stands_in_any own_after R) x.after.types v (o ++ m ∷ []) g in
          let y = made_unknown v (o ++ m ∷ []) i is in
          subst (IsIn U) (last_path y.front o y.number m (sym y.is)) y.listed

  -- Where no unknown type stands in the types of the roots, no variable that is made has one as its name.
  pub names_plain : ((k r : ℕ) (e : slice_get R k ≡ Some r) → IsKnown (denote k r e).type) → NoneUnknown at.names → NoneUnknown names
  names_plain known none v o unknown e = by (nat_lt v (length a.nodes)) e
    where
      by : (i : Bool) → (if i then at.names v else only_at (stands_in_any own_after R) x.after.types v) ≡ type.Con o typs.Nil → ⊥
      by true g = none v o unknown g
      by false g =
          let (i, is) = there_alone (stands_in_any own_after R) x.after.types v o g in
          let y = in_any v own_after R i in
          let d = denote y.place y.node y.at in
          let root_known : IsKnown (apply x.after.types (own_after y.node)) = subst IsKnown (sym d.denotes.is ∙ own_b.comes x.after.types x.assigns.loose y.node) (known y.place y.node y.at) in
          no_yes (sym (subst IsKnown is (known_there x.after.types v (own_after y.node) y.occurs root_known)).0 ∙ unknown)

  -- a root that denotes a type stands for it
  pub whole_root : {r : ℕ} {t : Typ} → IsIn R r → Denotes x.after r t → RootAs c.nodes (R ++ at.roots) names arity r t
  whole_root {r} i d = root_closed is_declaring x.assigns closes plain root_named i (in_first R at.roots r i) d

  whole_bound : AreBoundIn c.nodes R
  whole_bound = record {
    inside = λ k r e. (whole_root (k, e) (denote k r e).denotes).inside;
    bound = λ K own_c v h. let y = in_any v K R h in named_bound ((whole_root (y.place, y.at) (denote y.place y.node y.at).denotes).named K own_c v y.occurs);
  }

  -- The next item starts among the names of before and those of the declaration, which stand for entries of the definitions.
  module _ (more : List Entry) (fs : Environment) (entries : EnvAs (SpecifiedAs c.nodes (R ++ at.roots) names) (DeclaredAs c.nodes (R ++ at.roots) names) (ExceptionAs c.nodes (R ++ at.roots) names) more fs) (plain_too : Bool) (keeps : plain_too ≡ true → AddsKnown c.nodes (R ++ at.roots) at.names names more fs) where
    whole_declares : Declares a c at.roots at.names more fs
    whole_declares = record {
      new_roots = R;
      new_names = names;
      same = λ v lt. further_old (length a.nodes) at.names (only_at (stands_in_any own_after R) x.after.types) v lt;
      apart = names_apart;
      older = U;
      unknown = names_of;
      are_bound = whole_bound;
      entries = entries;
      plain = plain_too;
      keeps = keeps;
    }

    pub outside_whole : StartsAfter at c G more fs U
    unfolding whole_declares
    outside_whole = record { outside = outside_declared at whole_types whole_declares; older = declared_older at whole_types whole_declares; grows = declared_grows at whole_types whole_declares }

    -- and all that is to be known of names is, where it was, and is of these
    pub whole_known : outside_whole.outside.known ≡ (at.known && plain_too)
    unfolding whole_declares outside_whole
    whole_known = declared_known at whole_types whole_declares
