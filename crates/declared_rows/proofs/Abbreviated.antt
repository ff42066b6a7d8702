-- An abbreviation over arguments, in a declaration: the copy of its root denotes the use of its type, with unknown types of its own.
use Rattle.std.proofs.Common.{◌≡◌, ◌≢◌, ◌∙◌, ◌⊎◌, inl, inr, ℕ, zero, suc, ◌+◌, ◌-◌, ◌<◌, ◌≤◌, nat_lt, Bool, true, false, List, [], ◌∷◌, ◌++◌, length, map, Some, refl, sym, ap, subst, arith, if◌then◌else◌}
use Rattle.std.specs.Prelude.{slice_get}
use Rattle.std.proofs.lemmas.Bool.{eqb-true}
use Rattle.std.proofs.lemmas.Option.{slice_get_within}
use Rattle.type_model.specs.Types.{Path, Typ, types_of, occurs}
use Rattle.type_model.specs.Types.{Typ as type, Typs as types}
use Rattle.type_model.specs.Substitutions.{apply}
use Rattle.type_model.specs.Limits.{no_scope}
use Rattle.type_model.proofs.Applying.{or_cases, apply_agree, eqb_same, occurs_from, occurs_put}
use Rattle.signature_model.specs.Changes.{argument}
use Rattle.signature_model.specs.Matching.{is_unknown, used}
use Rattle.type_nodes.specs.Nodes.{Node, Var, bound_level, IsSound}
use Rattle.type_nodes.specs.Readings.{Types, Fits}
use Rattle.type_nodes.proofs.Lists.{one_element}
use Rattle.level_unify.specs.Copies.{Extends}
use Rattle.level_unify.specs.Solutions.{Loose}
use Rattle.level_unify.specs.Instances.{Instantiated}
use Rattle.level_unify.proofs.Unified.{fits_loosely}
use Rattle.level_unify.proofs.Variants.{loose_apply}
use Rattle.typing_conditions.specs.Locals.{IsOwn, stands_in_any}
use Rattle.typing_conditions.specs.Standing.{IsIn}
use Rattle.typing_conditions.specs.Declared.{IsNamed, a_parameter, an_unknown, RootAs}
use Rattle.typing_conditions.specs.Sights.{Sight}
use Rattle.typing_conditions.specs.Frames.{Frame, Reaches, IsOpen, AreOpen, IsRoot}
use Rattle.typing_conditions.specs.Steps.{OnlyNodes}
use Rattle.typing_conditions.proofs.Own.{own_of}
use Rattle.typing_conditions.proofs.Regions.{any_in, in_any}
use Rattle.typing_conditions.proofs.Making.{loose_before, reading_before}
use Rattle.typing_conditions.proofs.Steps.{refines_made, same_node, old_or_new}
use Rattle.typing_conditions.proofs.Roots.{named_bound}
use Rattle.typing_conditions.proofs.Taking.{HasImages, images_of, used_named}
use Rattle.typing_conditions.proofs.Framing.{open_next, open_instance, open_on}
use Rattle.typing_rows.proofs.Filled.{JoinsEach}
use Rattle.typing_rows.proofs.Declared.{argument_at}
use Rattle.declared_rows.specs.Assignments as assigned
use Rattle.declared_rows.specs.Assignments.{IsAssigned, Assignment, Assigns, AssignedTo}
use Rattle.declared_rows.specs.Unknowns.{IsOther, Opens}
use Rattle.declared_rows.proofs.Made.{last_path, same_front}
use Rattle.declared_rows.proofs.Joined.{JoinedAll, all_joined}
use Rattle.declared_rows.proofs.Opened.{was, loose_before_opening, reading_before_opening, fits_opened, reaches_opened, open_opened}
use Rattle.declared_rows.proofs.Parts.{HasParts, becomes_variable}
use Rattle.declared_rows.proofs.Copied.{node_there, number_at, CopyTypes, copy_types}

-- old nodes have the types of before, and the new variables of unknown types their names
abbrev decoded : ℕ → Types → Types → (Typ → Typ) → ℕ → Typ
decoded k S N taken w = if nat_lt w k then S w else taken (N (w - k))

below : (w k : ℕ) → w < k → nat_lt w k ≡ true
below w k lt = grind arith

not_below : (k v : ℕ) → nat_lt (k + v) k ≡ false
not_below k v = grind arith

decoded_old : (k : ℕ) (S N : Types) (taken : Typ → Typ) (w : ℕ) → w < k → decoded k S N taken w ≡ S w
decoded_old k S N taken w lt = ap (λ (b : Bool). if b then S w else taken (N (w - k))) (below w k lt)

decoded_new : (k : ℕ) (S N : Types) (taken : Typ → Typ) (v : ℕ) → decoded k S N taken (k + v) ≡ taken (N v)
decoded_new k S N taken v = ap (λ (b : Bool). if b then S (k + v) else taken (N ((k + v) - k))) (not_below k v) ∙ ap (λ z. taken (N z)) (let e : (k + v) - k ≡ v = omega arith in e)

maps_same : (W : Types) (ps qs : List ℕ) → length ps ≡ length qs → ((k p q : ℕ) → slice_get ps k ≡ Some p → slice_get qs k ≡ Some q → W p ≡ W q) → map W ps ≡ map W qs
maps_same W [] [] many same = refl
maps_same W [] (q ∷ qs) many same = absurd (cc)
maps_same W (p ∷ ps) [] many same = absurd (cc)
maps_same W (p ∷ ps) (q ∷ qs) many same = let f = same 0 p q refl refl in let g = maps_same W ps qs (let e : length ps ≡ length qs = cc in e) (λ k x y e f. same (suc k) x y e f) in (λ i. f i ∷ g i)

maps_at : (V : Types) (ps qs : List ℕ) (k p q : ℕ) → map V ps ≡ map V qs → slice_get ps k ≡ Some p → slice_get qs k ≡ Some q → V p ≡ V q
maps_at V [] qs k p q e f g = absurd (cc)
maps_at V (x ∷ ps) [] k p q e f g = absurd (cc)
maps_at V (x ∷ ps) (y ∷ qs) zero p q e f g = let h : x ≡ p = cc in let i : y ≡ q = cc in let j : V x ≡ V y = cc in ap V (sym h) ∙ j ∙ ap V i
maps_at V (x ∷ ps) (y ∷ qs) (suc k) p q e f g = maps_at V ps qs k p q (let h : map V ps ≡ map V qs = cc in h) f g

module _ {F : Frame} {a b : Sight} {arity : ℕ} {U : List ℕ} {A : Assignment} {C : List ℕ} {N : Types} {r tup body : ℕ} {whole t : Typ} (n : ℕ) (args ps : List ℕ) (at : Assigns F arity U a A) (new_one : IsIn U n → ⊥) (known : (k m : ℕ) → slice_get args k ≡ Some m → IsIn A.nodes m)
    (root_as : RootAs a.nodes C N (length args) r whole) (is_root : IsRoot F a r) (inst : Instantiated a.nodes b.nodes r F.level tup) (sound_b : IsSound b.nodes) (rest_b : OnlyNodes a b)
    (parts_for : (I : Types) → IsOwn a.nodes I → (images : HasImages b.nodes I r tup) → HasParts b.nodes N images.image (I r) ps body t) (open_body : IsOpen F b body) (open_parts : AreOpen F b ps) (many : length ps ≡ length args) where
  abbrev I : Types
  I = (own_of a.nodes at.reached.sound).0

  own_a : IsOwn a.nodes I
  own_a = (own_of a.nodes at.reached.sound).1

  abbrev K : Types
  K = (own_of b.nodes sound_b).0

  own_b : IsOwn b.nodes K
  own_b = (own_of b.nodes sound_b).1

  extends : Extends a.nodes b.nodes
  extends = inst.extends

  open_tup : IsOpen F b tup
  open_tup = open_instance sound_b rest_b inst at.reached is_root

  images : HasImages b.nodes I r tup
  images = images_of own_a own_b inst (λ v o. named_bound (root_as.named I own_a v o))

  parts : HasParts b.nodes N images.image (I r) ps body t
  parts = parts_for I own_a images

  args_inside : (k m : ℕ) → slice_get args k ≡ Some m → m < length a.nodes
  args_inside k m e = (at.opens m (known k m e)).inside

  parts_inside : (k p : ℕ) → slice_get ps k ≡ Some p → p < length b.nodes
  parts_inside k p e = (open_parts k p e).inside

  z : CopyTypes a.nodes b.nodes I K N r tup args ps images.image
  z = copy_types args ps own_a own_b sound_b root_as inst images args_inside many parts_inside parts

  abbrev W : Types
  W = z.chosen

  loose_b : Loose b.nodes W
  loose_b = fits_loosely b.nodes W z.fits

  loose_old : (V : Types) → Loose b.nodes V → Loose a.nodes V
  loose_old V loose = loose_before a.nodes b.nodes V extends loose

  -- the variables of an older node are older
  older_var : (m v : ℕ) → m < length a.nodes → occurs v (I m) ≡ true → v < length a.nodes
  older_var m v lt o = let var = own_a.only m v lt o in slice_get_within a.nodes v (Var var.level var.scope) var.at

  -- what the arguments denote, and the unknown types of the copy
  abbrev given : Typ → Typ
  given x = used (argument (types_of (map A.types args))) (λ o. type.Con (o ++ n ∷ []) types.Nil) x

  -- the types after it
  abbrev S : Types
  S m = apply (decoded (length a.nodes) A.types N given) (W m)

  loose_s : Loose b.nodes S
  loose_s = loose_apply b.nodes (decoded (length a.nodes) A.types N given) W loose_b

  s_older : (m : ℕ) → m < length a.nodes → S m ≡ A.types m
  s_older m lt =
      ap (apply (decoded (length a.nodes) A.types N given)) (z.same m lt) ∙ apply_agree (decoded (length a.nodes) A.types N given) A.types (I m) (λ v o. decoded_old (length a.nodes) A.types N given v (older_var m v lt o)) ∙
      sym (own_a.comes A.types at.loose m)

  -- an image has what the name of its variable is used for
  s_image : (v : ℕ) → occurs v (I r) ≡ true → S (images.image v) ≡ given (N v)
  s_image v o = by (root_as.named I own_a v o)
    where
      by : IsNamed a.nodes N (length args) v → S (images.image v) ≡ given (N v)
      by (a_parameter scope k e other lt is) =
          let (m, f) = number_at args k lt in
          let inside = args_inside k m f in
          ap (apply (decoded (length a.nodes) A.types N given)) (z.of_parameter v k o is ∙ ap I (node_there args k m f) ∙ sym (z.same m inside)) ∙ s_older m inside ∙
          ap A.types (sym (node_there args k m f)) ∙ sym (argument_at A.types args k lt) ∙ sym (ap given is)
      by (an_unknown path e u is) = ap (apply (decoded (length a.nodes) A.types N given)) (z.of_unknown v path o is) ∙ decoded_new (length a.nodes) A.types N given v

  -- so has the body
  s_body : S body ≡ given t
  s_body =
      parts.rest.is S loose_s ∙ apply_agree (λ v. S (images.image v)) (λ v. given (N v)) parts.rest.type (λ v o. s_image v (parts.rest.inside v o)) ∙
      sym (used_named (argument (types_of (map A.types args))) (λ o. type.Con (o ++ n ∷ []) types.Nil) N parts.rest.type (parts.rest.known (root_as.known I own_a))) ∙ ap given parts.rest.named

  -- a variable of what is known is that of one of before, or that of an unknown type of the copy
  record OldOrigin (J : Types) (v : ℕ) : Type 0 where
    pub variable : ℕ
    pub stands : stands_in_any I A.nodes variable ≡ true
    pub older : variable < length a.nodes
    pub level : ℕ
    pub scope : ℕ
    pub here : slice_get a.nodes variable ≡ Some (Var level scope)
    pub free : level ≢ bound_level
    pub is : J variable ≡ type.Var v

  record NewOrigin (J : Types) (v : ℕ) : Type 0 where
    pub variable : ℕ
    pub path : Path
    pub occurs : occurs variable (I r) ≡ true
    pub named : N variable ≡ type.Con path types.Nil
    pub unknown : is_unknown path ≡ true
    pub is : J (images.image variable) ≡ type.Var v

  -- nodes of before are open still
  open_older : (m : ℕ) → IsOpen F a m → IsOpen F b m
  open_older m h = open_next (λ r. open_tup.reached) (λ r J own. refines_made a.nodes b.nodes J own (record { longer = extends.longer; node = extends.node })) h

  -- After its unknown types are opened, and its parameters are made one with the arguments.
  module _ {c : Sight} (opens : Opens b.nodes c.nodes tup ps) (sound_c : IsSound c.nodes) (rest_c : OnlyNodes b c) where
    since_start : (m : ℕ) (x : Node) → slice_get b.nodes m ≡ Some x → IsOther b.nodes tup ps m x → length F.start ≤ m
    since_start m x e o = let p = z.since m x e o in let q = (at.reached.local I own_a).refines.longer in omega arith

    reached_c : Reaches F c
    reached_c = reaches_opened open_tup.reached open_tup.inside opens sound_c rest_c since_start

    open_c : (m : ℕ) → IsOpen F b m → IsOpen F c m
    open_c m h = open_opened open_tup.reached open_tup.inside opens sound_c rest_c since_start m h

    fits_c : Fits c.nodes W
    fits_c = fits_opened K own_b open_tup.inside opens W z.fits z.scoped

    -- the node of an older variable stays
    older_c : (x l o : ℕ) → x < length a.nodes → slice_get a.nodes x ≡ Some (Var l o) → slice_get c.nodes x ≡ Some (Var l o)
    older_c x l o lt e = let f = extends.node x lt ∙ e in opens.stays x (Var l o) f (λ other. let le = z.since x (Var l o) f other in absurd (omega arith))

    module _ (d : Sight) (joins : JoinsEach c d ps args) where
      joined : JoinedAll F c d W ps args
      joined = all_joined W ps args reached_c fits_c (maps_same W ps args many z.parameters) (λ k m e. open_c m (open_parts k m e)) (λ k m e. open_c m (open_older m (at.opens m (known k m e)))) joins

      loose_d : Loose d.nodes W
      loose_d = fits_loosely d.nodes W joined.fits

      loose_b_d : (V : Types) → Loose d.nodes V → Loose b.nodes V
      loose_b_d V loose = loose_before_opening K own_b open_tup.inside opens V (joined.stays.loose V loose)

      loose_sd : Loose d.nodes S
      loose_sd = loose_apply d.nodes (decoded (length a.nodes) A.types N given) W loose_d

      -- what has the type of a variable by W is one
      only_one : (J : Types) → IsOwn d.nodes J → (m w v : ℕ) → W m ≡ type.Var w → occurs v (J m) ≡ true → J m ≡ type.Var v
      only_one J own m w v e o =
          let (u, is) = becomes_variable W w (J m) (sym (own.comes W loose_d m) ∙ e) in
          let s : v ≡ u = eqb-true v u (ap (occurs v) (sym is) ∙ o) in is ∙ ap type.Var (sym s)

      w_older : (m l o : ℕ) → m < length a.nodes → slice_get a.nodes m ≡ Some (Var l o) → W m ≡ type.Var m
      w_older m l o lt e = z.same m lt ∙ own_a.vars m l o e

      old_origin : (J : Types) → IsOwn d.nodes J → (v m : ℕ) → IsIn A.nodes m → occurs v (J m) ≡ true → OldOrigin J v
      old_origin J own v m i o =
          let (x, p, q) = occurs_from J v (I m) (ap (occurs v) (sym (own_a.comes J (loose_old J (loose_b_d J own.loose)) m)) ∙ o) in
          let low = (at.opens m i).free I own_a x p in
          let lt = older_var m x (at.opens m i).inside p in
          let (k, e) = i in
          record { variable = x; stands = any_in x I A.nodes k m e p; older = lt; level = low.level; scope = low.scope; here = low.at; free = low.free; is = only_one J own x x v (w_older x low.level low.scope lt low.at) q }

      body_origin : (J : Types) → IsOwn d.nodes J → (v : ℕ) → occurs v (J body) ≡ true → OldOrigin J v ⊎ NewOrigin J v
      body_origin J own v o =
          let (y, p, q) = occurs_from (λ x. J (images.image x)) v parts.rest.type (ap (occurs v) (sym (parts.rest.is J (loose_b_d J own.loose))) ∙ o) in
          by y (parts.rest.inside y p) q (root_as.named I own_a y (parts.rest.inside y p))
        where
          by : (y : ℕ) → occurs y (I r) ≡ true → occurs v (J (images.image y)) ≡ true → IsNamed a.nodes N (length args) y → OldOrigin J v ⊎ NewOrigin J v
          by y p q (a_parameter scope k e other lt is) =
              let (m, f) = number_at args k lt in
              let (x, g) = number_at ps k (let l = many in omega arith) in
              let parameter = parts.parameters k x g in
              let same : parameter.variable ≡ y = root_as.apart I own_a parameter.variable y parameter.occurs p (parameter.named ∙ sym is) in
              inl (old_origin J own v m (known k m f) (ap (occurs v) (sym (maps_at J ps args k x m (joined.solved J own.loose) g f) ∙ parameter.is J (loose_b_d J own.loose) ∙ ap (λ w. J (images.image w)) same) ∙ q))
          by y p q (an_unknown path e u is) = inr (record { variable = y; path = path; occurs = p; named = is; unknown = u; is = only_one J own (images.image y) (length a.nodes + y) v (z.of_unknown y path p is) q })

      -- what it denotes
      s_old : (J : Types) → IsOwn d.nodes J → (v : ℕ) → (x : OldOrigin J v) → S v ≡ A.types x.variable
      s_old J own v x = sym (own.comes S loose_sd x.variable ∙ ap (apply S) x.is) ∙ s_older x.variable x.older

      s_new : (J : Types) → IsOwn d.nodes J → (v : ℕ) → (x : NewOrigin J v) → S v ≡ type.Con (x.path ++ n ∷ []) types.Nil
      s_new J own v x =
          sym (own.comes S loose_sd (images.image x.variable) ∙ ap (apply S) x.is) ∙ s_image x.variable x.occurs ∙ ap given x.named ∙
          ap (λ (u : Bool). if u then type.Con (x.path ++ n ∷ []) types.Nil else type.Con x.path types.Nil) x.unknown

      -- The scope of one that is older: that of unknown types exactly where it is one.
      old_low : (J : Types) → IsOwn d.nodes J → (v l o : ℕ) → slice_get d.nodes v ≡ Some (Var l o) → l ≢ bound_level → (x : OldOrigin J v) → o ≤ x.scope
      old_low J own v l o e free x = joined.least.bound J own x.variable x.level x.scope v l o (older_c x.variable x.level x.scope x.older x.here) x.free e free (ap (occurs v) x.is ∙ eqb_same v)

      old_high : (J : Types) → IsOwn d.nodes J → (v l o : ℕ) → slice_get d.nodes v ≡ Some (Var l o) → l ≢ bound_level → (x : OldOrigin J v) → x.scope ≢ 0 → o ≢ 0
      old_high J own v l o e free x scoped zero_is = by (joined.least.source J own v l o e free)
        where
          w_v : W v ≡ type.Var x.variable
          w_v = sym (own.comes W loose_d x.variable ∙ ap (apply W) x.is) ∙ w_older x.variable x.level x.scope x.older x.here

          w_from : (m : ℕ) → J m ≡ type.Var v → W m ≡ type.Var x.variable
          w_from m is = own.comes W loose_d m ∙ ap (apply W) is ∙ w_v

          old_one : (m k : ℕ) → slice_get b.nodes m ≡ Some (Var k o) → occurs v (J m) ≡ true → m < length a.nodes → ⊥
          old_one m k f h lt =
              let here : slice_get a.nodes m ≡ Some (Var k o) = sym (extends.node m lt) ∙ f in
              let w_m = w_older m k o lt here in
              let s : type.Var m ≡ type.Var x.variable = sym w_m ∙ w_from m (only_one J own m m v w_m h) in
              let s' : m ≡ x.variable = cc in
              let g : Var k o ≡ Var x.level x.scope = one_element (Var k o) (Var x.level x.scope) (slice_get a.nodes m) here (ap (slice_get a.nodes) s' ∙ x.here) in
              let g' : o ≡ x.scope = cc in
              scoped (sym g' ∙ zero_is)

          from_b : (m k : ℕ) → occurs v (J m) ≡ true → (slice_get b.nodes m ≡ Some (Var k o)) → ⊥
          from_b m k h f = elim (old_or_new m (length a.nodes)) [
            | inl lt ↦ old_one m k f h lt
            | inr le ↦ let g : o ≡ no_scope = (inst.vars m k o le f).1 in let g' : 0 ≡ no_scope = sym zero_is ∙ g in absurd (omega arith)
          ]

          by : (m : ℕ) × (k : ℕ) × (slice_get c.nodes m ≡ Some (Var k o)) × (k ≢ bound_level) × (occurs v (J m) ≡ true) → ⊥
          by (m, k, f, free', h) = elim (was K own_b open_tup.inside opens m (Var k o) f) [
            | inl g ↦ from_b m k h g
            | inr (y, g, (other, is)) ↦
                let i = z.others m y g other in
                let s : type.Var (length a.nodes + i.variable) ≡ type.Var x.variable = sym i.is ∙ w_from m (only_one J own m (length a.nodes + i.variable) v i.is h) in
                let s' : length a.nodes + i.variable ≡ x.variable = cc in
                let lt = x.older in absurd (omega arith)
          ]

      -- That of an unknown type of the copy.
      new_low : (J : Types) → IsOwn d.nodes J → (v l o : ℕ) → slice_get d.nodes v ≡ Some (Var l o) → l ≢ bound_level → NewOrigin J v → o ≡ 0
      new_low J own v l o e free x =
          let (w, is) = z.variables x.variable x.occurs in
          let stands : occurs w (K tup) ≡ true = ap (occurs w) (images.is K own_b.loose) ∙ occurs_put (λ y. K (images.image y)) x.variable w (I r) x.occurs (ap (occurs w) is ∙ eqb_same w) in
          let low = open_tup.free K own_b w stands in
          let other = z.images x.variable w low.level low.scope x.path x.occurs x.named is low.at low.free in
          let j_w : J w ≡ type.Var v = sym (own_b.comes J (loose_b_d J own.loose) (images.image x.variable) ∙ ap (apply J) is) ∙ x.is in
          let le = joined.least.bound J own w other.level 0 v l o (opens.opens w (Var low.level low.scope) low.at other) other.free e free (ap (occurs v) j_w ∙ eqb_same v) in omega arith

      -- each variable is a parameter or an unknown type
      old_assigned : (J : Types) → IsOwn d.nodes J → (v l o : ℕ) → slice_get d.nodes v ≡ Some (Var l o) → l ≢ bound_level → (x : OldOrigin J v) → IsAssigned S A.older (n ∷ U) arity o v
      old_assigned J own v l o e free x = by (at.each I own_a x.variable x.level x.scope x.stands x.here)
        where
          by : IsAssigned A.types A.older U arity x.scope x.variable → IsAssigned S A.older (n ∷ U) arity o v
          by (assigned.a_parameter k scoped lt is) = assigned.a_parameter k (old_high J own v l o e free x scoped) lt (s_old J own v x ∙ is)
          by (assigned.an_unknown p m scope u (k, i) new is) = assigned.an_unknown p m (let le = old_low J own v l o e free x in omega arith) u (suc k, i) new (s_old J own v x ∙ is)

      new_assigned : (J : Types) → IsOwn d.nodes J → (v l o : ℕ) → slice_get d.nodes v ≡ Some (Var l o) → l ≢ bound_level → (x : NewOrigin J v) → IsAssigned S A.older (n ∷ U) arity o v
      new_assigned J own v l o e free x = assigned.an_unknown x.path n (new_low J own v l o e free x) x.unknown (zero, refl) (λ i. new_one (at.taken n i)) (s_new J own v x)

      -- and no two are the same one
      none_old : (v w : ℕ) (path : Path) → IsAssigned A.types A.older U arity v w → A.types w ≡ type.Con (path ++ n ∷ []) types.Nil → ⊥
      none_old v w path (assigned.a_parameter k scoped lt is) e = let f : type.Var k ≡ type.Con (path ++ n ∷ []) types.Nil = sym is ∙ e in cc
      none_old v w path (assigned.an_unknown p m scope u i new is) e =
          let f : type.Con (p ++ m ∷ []) types.Nil ≡ type.Con (path ++ n ∷ []) types.Nil = sym is ∙ e in
          let g : p ++ m ∷ [] ≡ path ++ n ∷ [] = cc in
          new_one (subst (IsIn U) (last_path p path m n g) i)

      same_variable : (J : Types) (x v w : ℕ) → J x ≡ type.Var v → J x ≡ type.Var w → v ≡ w
      same_variable J x v w e f = let g : type.Var v ≡ type.Var w = sym e ∙ f in cc

      apart_by : (J : Types) → IsOwn d.nodes J → (v w : ℕ) → OldOrigin J v ⊎ NewOrigin J v → OldOrigin J w ⊎ NewOrigin J w → S v ≡ S w → v ≡ w
      apart_by J own v w (inl x) (inl y) e =
          let s : x.variable ≡ y.variable = at.apart I own_a x.variable y.variable x.stands y.stands (sym (s_old J own v x) ∙ e ∙ s_old J own w y) in
          same_variable J x.variable v w x.is (ap J s ∙ y.is)
      apart_by J own v w (inl x) (inr y) e = absurd (none_old x.scope x.variable y.path (at.each I own_a x.variable x.level x.scope x.stands x.here) (sym (s_old J own v x) ∙ e ∙ s_new J own w y))
      apart_by J own v w (inr x) (inl y) e = absurd (none_old y.scope y.variable x.path (at.each I own_a y.variable y.level y.scope y.stands y.here) (sym (s_old J own w y) ∙ sym e ∙ s_new J own v x))
      apart_by J own v w (inr x) (inr y) e =
          let f : type.Con (x.path ++ n ∷ []) types.Nil ≡ type.Con (y.path ++ n ∷ []) types.Nil = sym (s_new J own v x) ∙ e ∙ s_new J own w y in
          let g : x.path ++ n ∷ [] ≡ y.path ++ n ∷ [] = cc in
          let s : x.variable ≡ y.variable = root_as.apart I own_a x.variable y.variable x.occurs y.occurs (x.named ∙ ap (λ p. type.Con p types.Nil) (same_front x.path y.path n g) ∙ sym y.named) in
          same_variable J (images.image x.variable) v w x.is (ap (λ k. J (images.image k)) s ∙ y.is)

      open_body_d : IsOpen F d body
      open_body_d = open_on joined.stays (open_c body open_body)

      open_older_d : (m : ℕ) → IsIn A.nodes m → IsOpen F d m
      open_older_d m i = open_on joined.stays (open_c m (open_older m (at.opens m i)))

      abbrev after : Assignment
      after = record { types = S; nodes = body ∷ A.nodes; older = A.older }

      open_after : (m : ℕ) → IsIn after.nodes m → IsOpen F d m
      open_after m (zero, e) = let f : body ≡ m = cc in subst (IsOpen F d) f open_body_d
      open_after m (suc k, e) = open_older_d m (k, e)

      origin : (J : Types) → IsOwn d.nodes J → (v : ℕ) → stands_in_any J after.nodes v ≡ true → OldOrigin J v ⊎ NewOrigin J v
      origin J own v h = elim (or_cases (occurs v (J body)) (stands_in_any J A.nodes v) h) [
        | inl o ↦ body_origin J own v o
        | inr o ↦ let x = in_any v J A.nodes o in inl (old_origin J own v x.node (x.place, x.at) x.occurs)
      ]

      free_of : (J : Types) → IsOwn d.nodes J → (v l o : ℕ) → stands_in_any J after.nodes v ≡ true → slice_get d.nodes v ≡ Some (Var l o) → l ≢ bound_level
      free_of J own v l o h e = let x = in_any v J after.nodes h in let low = (open_after x.node (x.place, x.at)).free J own v x.occurs in λ is. low.free (same_node d.nodes v low.level low.scope l o low.at e ∙ is)

      -- The assignment goes on, and the body denotes the use of the type.
      pub abbreviation_denotes : AssignedTo F arity (n ∷ U) a d A body (given t)
      abbreviation_denotes = record {
        on = record {
          after = after;
          assigns = record {
            reached = joined.stays.reaches reached_c;
            loose = loose_sd;
            opens = open_after;
            each = λ J own v l o h e. let free = free_of J own v l o h e in elim (origin J own v h) [ inl x ↦ old_assigned J own v l o e free x | inr x ↦ new_assigned J own v l o e free x ];
            taken = λ k i. let (j, e) = at.taken k i in (suc j, e);
            apart = λ J own v w h i e. apart_by J own v w (origin J own v h) (origin J own w i) e;
          };
          same = s_older;
          keeps = λ m (k, e). (suc k, e);
          older = refl;
          longer = let p = extends.longer in let q = opens.len in let s = joined.len in omega arith;
          reads = λ V h. reading_before a.nodes b.nodes V extends (reading_before_opening K own_b open_tup.inside opens z.any V (joined.stays.reads V h));
        };
        denotes = record { known = (zero, refl); is = s_body };
      }
