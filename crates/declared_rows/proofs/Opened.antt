-- Variables of an instance get the scope of unknown types: types that fit whatever the scopes, the nodes' own types, and open nodes stay.
use Rattle.std.proofs.Common.{◌≡◌, ◌≢◌, ◌∙◌, ◌⊎◌, inl, inr, ℕ, zero, suc, ◌<◌, ◌≤◌, Bool, true, List, [], ◌∷◌, length, map, Some, refl, sym, ap, subst, arith}
use Rattle.std.specs.Prelude.{slice_get, All}
use Rattle.std.proofs.lemmas.Bool.Decides.{eqb_tells}
use Rattle.std.proofs.lemmas.Option.{slice_get_within}
use Rattle.type_model.specs.Types.{occurs}
use Rattle.type_model.specs.Limits.{no_scope, IsInScope}
use Rattle.type_nodes.specs.Nodes.{Node, Var, Rigid, Link, Arrow, Tuple, Con, parts, bound_level, IsSound, IsClosed}
use Rattle.type_nodes.specs.Links.{root}
use Rattle.type_nodes.specs.Readings.{Types, FitsNode, Fits, IsReading}
use Rattle.type_nodes.proofs.Lists.{one_element}
use Rattle.level_unify.specs.Solutions.{Loose, FitsLoosely}
use Rattle.level_unify.proofs.Steps.{cell_at}
use Rattle.level_unify.proofs.Variants.{stands_occurs}
use Rattle.typing_laws.proofs.Bools.{no_yes}
use Rattle.typing_conditions.specs.Locals.{IsLow, IsOwn, Local}
use Rattle.typing_conditions.specs.Standing.{IsIn}
use Rattle.typing_conditions.specs.Sights.{Sight}
use Rattle.typing_conditions.specs.Frames.{Frame, Reaches, IsOpen}
use Rattle.typing_conditions.specs.Steps.{OnlyNodes}
use Rattle.typing_conditions.proofs.Own.{own_of}
use Rattle.typing_conditions.proofs.Making.{in_any_scope}
use Rattle.typing_conditions.proofs.Steps.{true_or_false, old_or_new}
use Rattle.typing_conditions.proofs.Framing.{reaches_step}
use Rattle.declared_rows.specs.Unknowns.{IsOther, Opens}

-- a number is in a list or not
pub in_or_not : (ms : List ℕ) (n : ℕ) → IsIn ms n ⊎ (IsIn ms n → ⊥)
in_or_not [] n = inr (λ (k, e). absurd (cc))
in_or_not (m ∷ ms) n = elim (eqb_tells m n) [
  | inl (_, e) ↦ inl (zero, ap (λ k. Some k) e)
  | inr (_, other) ↦ elim (in_or_not ms n) [ inl (k, e) ↦ inl (suc k, e) | inr none ↦ inr (neither other none) ]
]
  where
    neither : m ≢ n → (IsIn ms n → ⊥) → IsIn (m ∷ ms) n → ⊥
    neither other none (zero, e) = other (let f : m ≡ n = cc in f)
    neither other none (suc k, e) = none (k, e)

module _ {old new : List Node} {r : ℕ} {ps : List ℕ} (J : Types) (own : IsOwn old J) (inside : r < length old) (o : Opens old new r ps) where
  is_other : (n : ℕ) (c : Node) → slice_get old n ≡ Some c → IsOther old r ps n c ⊎ (IsOther old r ps n c → ⊥)
  is_other n (Var l s) e = elim (eqb_tells l bound_level) [
    | inl (_, bound) ↦ inr (λ x. x.free (let f = x.is in let g : l ≡ x.level = cc in sym g ∙ bound))
    | inr (_, free) ↦ elim (true_or_false (occurs n (J r))) [
      | inr absent ↦ inr (λ x. no_yes (sym absent ∙ stands_occurs old J n r own.loose (own.vars n l s e) x.stands))
      | inl there ↦ elim (in_or_not (map (root old) ps) n) [
        | inl i ↦ inr (λ x. x.none i)
        | inr none ↦ inl (record { level = l; scope = s; is = refl; free = free; stands = own.stands r n inside there; none = none })
      ]
    ]
  ]
  is_other n Rigid e = inr (λ x. absurd (let f = x.is in cc))
  is_other n (Link m) e = inr (λ x. absurd (let f = x.is in cc))
  is_other n (Arrow a b) e = inr (λ x. absurd (let f = x.is in cc))
  is_other n (Tuple ms) e = inr (λ x. absurd (let f = x.is in cc))
  is_other n (Con p name ms) e = inr (λ x. absurd (let f = x.is in cc))

  -- what became of a node
  pub became : (n : ℕ) (c : Node) → slice_get old n ≡ Some c → (slice_get new n ≡ Some c) ⊎ ((x : IsOther old r ps n c) × (slice_get new n ≡ Some (Var x.level 0)))
  became n c e = elim (is_other n c e) [ inl x ↦ inr (x, o.opens n c e x) | inr none ↦ inl (o.stays n c e none) ]

  -- and what it was
  pub was : (n : ℕ) (d : Node) → slice_get new n ≡ Some d → (slice_get old n ≡ Some d) ⊎ ((c : Node) × (slice_get old n ≡ Some c) × ((x : IsOther old r ps n c) × (d ≡ Var x.level 0)))
  was n d e =
      let (c, f) = cell_at old n (let p = slice_get_within new n d e in let q = o.len in omega arith) in
      elim (became n c f) [
        | inl same ↦ inl (f ∙ ap (λ k. Some k) (one_element c d (slice_get new n) same e))
        | inr (x, g) ↦ inr (c, f, (x, one_element d (Var x.level 0) (slice_get new n) e g))
      ]

  loose_var : (V : Types) (n l k : ℕ) (c : Node) → c ≡ Var l k → FitsLoosely V n c
  loose_var V n l k c e = subst (FitsLoosely V n) (sym e) tt

  pub loose_before_opening : (V : Types) → Loose new V → Loose old V
  loose_before_opening V h = record { each = λ n c e. elim (became n c e) [ inl same ↦ h.each n c same | inr (x, f) ↦ loose_var V n x.level x.scope c x.is ] }

  pub loose_opened : (V : Types) → Loose old V → Loose new V
  loose_opened V h = record { each = λ n d e. elim (was n d e) [ inl same ↦ h.each n d same | inr (c, f, (x, is)) ↦ loose_var V n x.level 0 d is ] }

  -- a set that has the parts of its nodes still has
  parts_of_var : (l k : ℕ) (F : ℕ → Bool) (c : Node) → c ≡ Var l k → All (λ m. F m ≡ true) (parts c)
  parts_of_var l k F c e = subst (λ d. All (λ m. F m ≡ true) (parts d)) (sym e) (λ i d lt. absurd (omega arith))

  closed_opened : (F : ℕ → Bool) → IsClosed old F → IsClosed new F
  closed_opened F h = record { each = λ n d has e. elim (was n d e) [ inl same ↦ h.each n d has same | inr (c, f, (x, is)) ↦ parts_of_var x.level 0 F d is ] }

  -- the nodes' own types are the same
  pub own_before_opening : (K : Types) → IsOwn new K → IsOwn old K
  own_before_opening K after = record {
    loose = loose_before_opening K after.loose;
    vars = λ n l k e. elim (became n (Var l k) e) [ inl same ↦ after.vars n l k same | inr (x, f) ↦ after.vars n x.level 0 f ];
    comes = λ V h. after.comes V (loose_opened V h);
    only = λ n v lt h.
        let var = after.only n v (let q = o.len in omega arith) h in
        elim (was v (Var var.level var.scope) var.at) [
          | inl same ↦ record { level = var.level; scope = var.scope; at = same }
          | inr (c, f, (x, is)) ↦ record { level = x.level; scope = x.scope; at = f ∙ ap (λ k. Some k) x.is }
        ];
    stands = λ n v lt h. record { each = λ F c. (after.stands n v (let q = o.len in omega arith) h).each F (closed_opened F c) };
    known = λ plain. after.known (record {
      each = λ n p name ms e. elim (was n (Con p name ms) e) [ inl same ↦ plain.each n p name ms same | inr (c, f, (x, is)) ↦ absurd (cc) ];
    });
  }

  -- Each reading was one, where nothing limited the variables; and types that fit still do, where those of the variables are in the scope of unknown types.
  module _ (any : (n : ℕ) (c : Node) → slice_get old n ≡ Some c → (x : IsOther old r ps n c) → x.scope ≡ no_scope) where
    any_var : (V : Types) (n l : ℕ) (c : Node) → c ≡ Var l no_scope → FitsNode V n c
    any_var V n l c e = subst (FitsNode V n) (sym e) (λ free. in_any_scope (V n))

    pub reading_before_opening : (V : Types) → IsReading new V → IsReading old V
    reading_before_opening V h = record {
      fits = record { each = λ n c e. elim (became n c e) [ inl same ↦ h.fits.each n c same | inr (x, f) ↦ any_var V n x.level c (x.is ∙ ap (Var x.level) (any n c e x)) ] };
      own = λ n scope e. h.own n scope (bound_still n scope e);
      apart = λ n level scope b scope' e free e'. elim (became n (Var level scope) e) [
        | inl same ↦ h.apart n level scope b scope' same free (bound_still b scope' e')
        | inr (x, f) ↦ h.apart n x.level 0 b scope' f x.free (bound_still b scope' e')
      ];
    }
      where
        bound_still : (n scope : ℕ) → slice_get old n ≡ Some (Var bound_level scope) → slice_get new n ≡ Some (Var bound_level scope)
        bound_still n scope e = elim (became n (Var bound_level scope) e) [ inl same ↦ same | inr (x, f) ↦ absurd (x.free (let g = x.is in let h : bound_level ≡ x.level = cc in sym h)) ]

  pub fits_opened : (V : Types) → Fits old V → ((n : ℕ) (c : Node) → slice_get old n ≡ Some c → IsOther old r ps n c → IsInScope 0 (V n)) → Fits new V
  fits_opened V h within = record { each = λ n d e. elim (was n d e) [ inl same ↦ h.each n d same | inr (c, f, (x, is)) ↦ subst (FitsNode V n) (sym is) (λ free. within n c f x) ] }

-- In a frame, where the variables were made since a state that it reached.
module _ {F : Frame} {a b : Sight} {r : ℕ} {ps : List ℕ} (reached : Reaches F a) (inside : r < length a.nodes) (o : Opens a.nodes b.nodes r ps) (sound : IsSound b.nodes) (rest : OnlyNodes a b)
    (since : (n : ℕ) (c : Node) → slice_get a.nodes n ≡ Some c → IsOther a.nodes r ps n c → length F.start ≤ n) where
  -- a low variable is one still
  low_opened : (K : Types) → IsOwn b.nodes K → (k v : ℕ) → IsLow a.nodes k v → IsLow b.nodes k v
  low_opened K own k v low = elim (became (own_of a.nodes reached.sound).0 (own_of a.nodes reached.sound).1 inside o v (Var low.level low.scope) low.at) [
    | inl same ↦ record { level = low.level; scope = low.scope; at = same; free = low.free; low = low.low }
    | inr (x, f) ↦ record { level = x.level; scope = 0; at = f; free = x.free; low = let g = x.is in let h : low.level ≡ x.level = cc in let i = low.low in omega arith }
  ]

  own_a : (J : Types) × IsOwn a.nodes J
  own_a = own_of a.nodes reached.sound

  local_opened : (K : Types) → IsOwn b.nodes K → Local F.start a.nodes F.types K F.roots reached.held F.level → Local F.start b.nodes F.types K F.roots reached.held F.level
  local_opened K own at = record {
    refines = record {
      longer = let p = at.refines.longer in let q = o.len in omega arith;
      loose = λ V h. at.refines.loose V (loose_before_opening own_a.0 own_a.1 inside o V h);
      bounds = λ v scope e. elim (became own_a.0 own_a.1 inside o v (Var bound_level scope) (at.refines.bounds v scope e)) [ inl same ↦ same | inr (x, f) ↦ absurd (x.free (let g = x.is in let h : bound_level ≡ x.level = cc in sym h)) ];
      frees = λ m v f h. let g = at.refines.frees m v f h in elim (became own_a.0 own_a.1 inside o v (Var g.level g.scope) g.at) [
        | inl same ↦ record { level = g.level; scope = g.scope; at = same; free = g.free }
        | inr (x, e) ↦ record { level = x.level; scope = 0; at = e; free = x.free }
      ];
      falls = λ m l s u l' s' e free e' h. elim (was own_a.0 own_a.1 inside o u (Var l' s') e') [
        | inl same ↦ at.refines.falls m l s u l' s' e free same h
        | inr (c, f, (x, is)) ↦ let g : l' ≡ x.level = cc in let le = at.refines.falls m l s u x.level x.scope e free (f ∙ ap (λ k. Some k) x.is) h in omega arith
      ];
    };
    closed = λ S region. closed_opened own_a.0 own_a.1 inside o S (at.closed S region);
    outside = λ S region n h. elim (old_or_new n (length a.nodes)) [
      | inr le ↦ absurd (no_yes (sym h ∙ region.made n (let p = at.refines.longer in omega arith)))
      | inl lt ↦
          let (c, e) = cell_at a.nodes n lt in
          elim (became own_a.0 own_a.1 inside o n c e) [ inl same ↦ same ∙ sym e ∙ at.outside S region n h | inr (x, f) ↦ absurd (no_yes (sym h ∙ region.made n (since n c e x))) ]
    ];
    sources = λ k u lt low. elim (was own_a.0 own_a.1 inside o u (Var low.level low.scope) low.at) [
      | inl same ↦ at.sources k u lt (record { level = low.level; scope = low.scope; at = same; free = low.free; low = low.low })
      | inr (c, f, (x, is)) ↦
          let g : low.level ≡ x.level = cc in
          at.sources k u lt (record { level = x.level; scope = x.scope; at = f ∙ ap (λ k. Some k) x.is; free = x.free; low = let i = low.low in omega arith })
    ];
  }

  -- The state after it is reached, and open nodes stay open.
  pub reaches_opened : Reaches F b
  reaches_opened = reaches_step reached sound rest.level (λ x m e. rest.written x ∙ e) (λ J K own own'. local_opened K own' (reached.local K (own_before_opening own_a.0 own_a.1 inside o K own')))

  pub open_opened : (n : ℕ) → IsOpen F a n → IsOpen F b n
  open_opened n h = record {
    reached = reaches_opened;
    inside = let p = h.inside in let q = o.len in omega arith;
    within = h.within;
    free = λ K own v i. low_opened K own F.level v (h.free K (own_before_opening own_a.0 own_a.1 inside o K own) v i);
  }
