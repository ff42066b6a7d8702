-- The other single steps: instances and new nodes; and what stands in several parts.
use Rattle.std.proofs.Common.{◌≡◌, ℕ, zero, ◌<◌, ◌≤◌, Bool, true, not, List, [], ◌∷◌, length, get_or, Some, refl, sym, ◌∙◌, ap, subst, arith, inl, inr}
use Rattle.std.specs.Prelude.{slice_get, All}
use Rattle.std.proofs.lemmas.Option.{slice_get_within}
use Rattle.type_model.specs.Types.{occurs}
use Rattle.type_model.proofs.Applying.{eqb_same}
use Rattle.typing_laws.proofs.Bools.{no_yes}
use Rattle.type_nodes.specs.Nodes.{Node, Var, parts}
use Rattle.type_nodes.specs.Readings.{Types}
use Rattle.type_nodes.specs.States.{State}
use Rattle.type_nodes.specs.Changes.{Makes}
use Rattle.type_nodes.proofs.Lists.{get-append_cases, get-append_left, length-snoc}
use Rattle.level_unify.specs.Solutions.{HaveNoBound}
use Rattle.level_unify.specs.Instances.{is_bound, Instantiated}
use Rattle.level_unify.proofs.Walking.{get_here}
use Rattle.level_unify.proofs.Variants.{bound_there, free_there}
use Rattle.typing_conditions.specs.Locals.{IsFreeVar, IsOwn, stands_in_any, all_pass, IsRegion, Within, Local, IsResult}
use Rattle.typing_conditions.proofs.Regions.{passes, passed, passing_closed, any_in, in_any}
use Rattle.typing_conditions.proofs.Steps.{local_made}

-- an instance touches what stands in its root alone
pub local_instance : (old new : List Node) (I J : Types) (r at m level : ℕ) → IsOwn old I → IsOwn new J → level ≤ at → Instantiated old new r at m → Local old new I J (r ∷ []) (λ k. []) level
local_instance old new I J r at m level before after le inst = local_made old new I J (r ∷ []) (λ k. []) level before after
    (record { longer = inst.extends.longer; node = inst.extends.node })
    (λ F reg. (inst.within F reg.closed (reg.has zero r refl) reg.made).0)
    (λ k u l o lt old_le e free low. absurd (let v = (inst.vars u l o old_le e).0 in omega arith))

-- the instance is a result
pub instance_within : (old new : List Node) (r level m : ℕ) → Instantiated old new r level m → Within old (r ∷ []) m
instance_within old new r level m inst = record { each = λ F reg. (inst.within F reg.closed (reg.has zero r refl) reg.made).1 }

-- a new node, whose variable is held or of the present level
pub local_node : (old new : State) (n : ℕ) (c : Node) (I J : Types) (H : ℕ → List ℕ) (level : ℕ) → IsOwn old.nodes I → IsOwn new.nodes J → Makes old new n c →
    ((k l o : ℕ) → k < level → c ≡ Var l o → l ≤ k → stands_in_any J (H k) n ≡ true) → Local old.nodes new.nodes I J (parts c) H level
local_node old new n c I J H level before after made held = local_made old.nodes new.nodes I J (parts c) H level before after
    (record {
      longer = let e = ap length made.added.nodes ∙ length-snoc old.nodes c in omega arith;
      node = λ m lt. ap (λ ns. slice_get ns m) made.added.nodes ∙ get-append_left old.nodes (c ∷ []) m lt;
    })
    (λ F reg. record {
      each = λ m d has e. elim (get-append_cases old.nodes c m d (ap (λ ns. slice_get ns m) (sym made.added.nodes) ∙ e)) [
        | inl f ↦ reg.closed.each m d has f
        | inr (p, q) ↦ subst (λ x. All (λ j. F j ≡ true) (parts x)) (sym q) (λ j z lt. reg.has j (get_or (parts c) j z) (get_here (parts c) j z lt))
      ];
    })
    (λ k u l o lt le e free low. elim (get-append_cases old.nodes c u (Var l o) (ap (λ ns. slice_get ns u) (sym made.added.nodes) ∙ e)) [
      | inl f ↦ absurd (let p = slice_get_within old.nodes u (Var l o) f in omega arith)
      | inr (p, q) ↦ subst (λ j. stands_in_any J (H k) j ≡ true) (made.added.number ∙ sym p) (held k l o lt (sym q) low)
    ])

-- two nodes whose variables are free, as unification wants them
pub open_nodes : (nodes : List Node) (J : Types) (a b : ℕ) → IsOwn nodes J → ((v : ℕ) → occurs v (J a) ≡ true → IsFreeVar nodes v) → ((v : ℕ) → occurs v (J b) ≡ true → IsFreeVar nodes v) → HaveNoBound nodes a b
open_nodes nodes J a b own fa fb = record {
  set = λ n. all_pass (λ v. not (is_bound nodes v)) (J n);
  closed = passing_closed nodes J (λ v. not (is_bound nodes v)) own.loose;
  left = passes (λ v. not (is_bound nodes v)) (J a) (λ v o. let f = fa v o in ap not (free_there nodes v f.level f.scope f.at f.free));
  right = passes (λ v. not (is_bound nodes v)) (J b) (λ v o. let f = fb v o in ap not (free_there nodes v f.level f.scope f.at f.free));
  free = λ n l o has e is.
      let p = passed (λ v. not (is_bound nodes v)) (J n) n has (ap (occurs n) (own.vars n l o e) ∙ eqb_same n) in
      no_yes (sym (ap not (bound_there nodes n (Var l o) e is)) ∙ p);
}

-- More roots, and more that is held, ask less.
pub local_more : (old new : List Node) (I J : Types) (C D : List ℕ) (H G : ℕ → List ℕ) (level lower : ℕ) → IsOwn new J → lower ≤ level → ((k c : ℕ) → slice_get C k ≡ Some c → (j : ℕ) × (slice_get D j ≡ Some c)) →
    ((k u : ℕ) → k < lower → stands_in_any J (H k) u ≡ true → stands_in_any J (G k) u ≡ true) → Local old new I J C H level → Local old new I J D G lower
local_more old new I J C D H G level lower after le roots held one = record {
  refines = one.refines;
  closed = λ F r. one.closed F (fewer F r);
  outside = λ F r. one.outside F (fewer F r);
  sources = λ k u lt low. elim (one.sources k u (omega arith) low) [
    | inr i ↦ inr (held k u lt i)
    | inl s ↦ inl (record {
      source = s.source;
      was = s.was;
      stands = s.stands;
      within = elim s.within [
        | inl i ↦ inl i
        | inr i ↦ let a = in_any s.source I C i in let (j, e) = roots a.place a.node a.at in inr (any_in s.source I D j a.node e a.occurs)
      ];
    })
  ];
}
  where
    fewer : (F : ℕ → Bool) → IsRegion old D F → IsRegion old C F
    fewer F r = record { closed = r.closed; has = λ k c e. let (j, f) = roots k c e in r.has j c f; made = r.made }

-- a result of a part that starts later, among results of the parts before, is one of the whole
pub result_widens : (old mid new : List Node) (I J K : Types) (C D : List ℕ) (H : ℕ → List ℕ) (level lower r : ℕ) → Local old mid I J C H level → ((k d : ℕ) → slice_get D k ≡ Some d → Within old C d) → IsResult mid new K D lower r → IsResult old new K C lower r
result_widens old mid new I J K C D H level lower r one within res = record {
  inside = res.inside;
  within = record {
    each = λ F reg. res.within.each F (record {
      closed = one.closed F reg;
      has = λ k d e. (within k d e).each F reg;
      made = λ n le. reg.made n (let l = one.refines.longer in omega arith);
    });
  };
  free = res.free;
}

-- a root of a part is within it, and what is new is
pub root_within : (old : List Node) (C : List ℕ) (k c : ℕ) → slice_get C k ≡ Some c → Within old C c
root_within old C k c e = record { each = λ F reg. reg.has k c e }

-- a new node is within any roots
pub new_within : (old : List Node) (C : List ℕ) (n : ℕ) → length old ≤ n → Within old C n
new_within old C n le = record { each = λ F reg. reg.made n le }
