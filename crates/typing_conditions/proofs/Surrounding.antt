-- What a part is typed among, after a call and with a further name.
use Rattle.std.proofs.Common.{Bool, ◌==◌, ◌≡◌, ℕ, zero, suc, ◌≤◌, true, List, ◌∷◌, Option, Some, refl, sym, subst, arith, []}
use Rattle.std.specs.Prelude.{slice_get}
use Rattle.type_model.specs.Types.{Typ, occurs}
use Rattle.type_model.specs.Types.{Typ as type}
use Rattle.type_model.specs.Schemes.{Scheme}
use Rattle.type_model.proofs.Applying.{eqb_same}
use Rattle.signature_model.specs.Declarations as rules
use Rattle.signature_model.specs.Declarations.{Name}
use Rattle.signature_model.specs.Entries.{Environment, entry, a_value}
use Rattle.signature_model.specs.Matching.{IsKnown}
use Rattle.typing_model.specs.Contexts.{Choice, in_item, monomorphic}
use Rattle.typing_model.specs.Typings.{no_choice}
use Rattle.typing_laws.proofs.Bools.{no_yes}
use Rattle.type_terms.specs.declared.types.NodeRef.{NodeRef}
use Rattle.type_nodes.specs.Nodes.{Node, Var}
use Rattle.type_nodes.specs.Readings.{Types}
use Rattle.level_unify.specs.Solutions.{Loose}
use Rattle.level_unify.proofs.Unified.{fits_loosely}
use Rattle.env_table.specs.declared.entries.Constructor.{Constructor}
use Rattle.env_table.specs.declared.entries.Declaration.{Declaration}
use Rattle.env_table.specs.declared.entries.Entry.{Entry}
use Rattle.typing_conditions.specs.Locals.{IsOwn, IsFreeVar}
use Rattle.typing_conditions.specs.Assumptions.{SchemeFits, SchemeReads}
use Rattle.typing_conditions.specs.Environments.{of_value, entry_as, no_names, newest}
use Rattle.typing_conditions.specs.Standing.{IsIn, Covers, Stands}
use Rattle.typing_conditions.specs.Declared.{UnknownApart}
use Rattle.typing_conditions.proofs.Own.{own_of}
use Rattle.typing_conditions.proofs.Environments.{env_map}
use Rattle.typing_conditions.proofs.Steps.{same_node, refines_none}
use Rattle.typing_conditions.proofs.Standing.{more_in, stands_fits_on, stands_reads_on, stands_named, one_type_fits, one_type_reads}
use Rattle.typing_conditions.specs.Sights.{Sight, Letters, Agrees}
use Rattle.typing_conditions.specs.Frames.{Frame, Reaches, IsRoot}
use Rattle.typing_conditions.specs.Meanings.{Means, KnowsFixed, KnowsWritten}
use Rattle.typing_conditions.specs.Carrying.{Scope, with_own, at_node, SeesScope, Stays}
use Rattle.typing_conditions.specs.Surroundings.{Declared, IsSteady, Surrounds, with_one, IsEntry}
use Rattle.typing_conditions.proofs.Stays.{agrees_before, named_before, bounds_before}
use Rattle.typing_conditions.proofs.Framing.{root_on}
use Rattle.typing_conditions.proofs.Meaning.{fixed_on}

-- declarations and exceptions may stand for those of the definitions in another way
pub stands_declared : {R : List Node → Types → ℕ → Scheme → Type 0} {D D' : Declaration → rules.Declaration → Type 0} {X X' : Constructor → Option Typ → Type 0} {nodes : List Node} {J V : Types} {C : List ℕ} {env : List Entry} {E : Environment} →
    ((d : Declaration) (e : rules.Declaration) → D d e → D' d e) → ((c : Constructor) (o : Option Typ) → X c o → X' c o) → Stands R D X nodes J C V env E → Stands R D' X' nodes J C V env E
stands_declared {R} {D} {D'} {X} {X'} {nodes} {J} {V} {C} more also s = record { names = env_map (λ r sc. R nodes V r sc × IsIn C r) (λ r sc. R nodes V r sc × IsIn C r) D D' X X' (λ r sc h. h) more also s.names; brings = s.brings }

-- and so may those of an environment whose roots are among others
pub covers_declared : {D D' : Declaration → rules.Declaration → Type 0} {X X' : Constructor → Option Typ → Type 0} (C : List ℕ) {env : List Entry} → ((d : Declaration) (e : rules.Declaration) → D d e → D' d e) → ((c : Constructor) (o : Option Typ) → X c o → X' c o) →
    Covers D X C env → Covers D' X' C env
covers_declared {D} {D'} {X} {X'} C more also (E, h) = (E, env_map (λ r sc. IsIn C r) (λ r sc. IsIn C r) D D' X X' (λ r sc k. k) more also h)

-- variables that are their own names have no unknown type as one
pub vars_apart : UnknownApart type.Var
vars_apart v w o unknown e f = absurd (cc)

-- no names stand for none
pub surrounds_none : {D : Declared} {F : Frame} {a : Sight} {G : Letters} {scope : Scope} → IsSteady D → ((ch : Choice) → scope.env ch ≡ []) → Reaches F a → 1 ≤ F.level → KnowsFixed F a → KnowsWritten F a → scope.variables ≡ in_item F.owner → Surrounds D F a G [] scope
surrounds_none {D} {F} {a} {G} {scope} steady none reached inside fixed written item = record {
  reached = reached;
  inside = inside;
  fixed = fixed;
  written = written;
  item = item;
  roots = [];
  names = type.Var;
  apart = vars_apart;
  steady = steady;
  are_roots = λ k r e. absurd (cc);
  covered = ([], no_names);
  known = λ known. record { plain = λ v o unknown e. absurd (cc); covered = ([], no_names) };
  reads = λ J V ch own reads g named unbound. subst (Stands SchemeReads (D.declaration a.nodes [] type.Var) (D.exception a.nodes [] type.Var) a.nodes J [] V []) (sym (none ch)) (record { names = no_names; brings = λ u w free h o. absurd (no_yes h) });
  fits = λ J V ch own loose g named. subst (Stands SchemeFits (D.declaration a.nodes [] type.Var) (D.exception a.nodes [] type.Var) a.nodes J [] V []) (sym (none ch)) (record { names = no_names; brings = λ u w free h o. absurd (no_yes h) });
}

-- the names stand for the same after a call
unfoldable pub surrounds_on : {D : Declared} {F : Frame} {a b : Sight} {G H : Letters} {env : List Entry} {scope : Scope} → Stays F a G b H → Surrounds D F a G env scope → Surrounds D F b H env scope
surrounds_on {D} {F} {a} {b} {G} {H} {env} {scope} s at = record {
  reached = s.reaches at.reached;
  inside = at.inside;
  fixed = fixed_on s at.fixed;
  written = s.writes at.written;
  item = at.item;
  roots = at.roots;
  names = at.names;
  apart = at.apart;
  steady = at.steady;
  are_roots = λ k r e. root_on s at.reached (at.are_roots k r e);
  covered = let own = own_of b.nodes (s.reaches at.reached).sound in covers_declared at.roots (declared own.0 own.1) (excepted own.0 own.1) at.covered;
  known = λ known.
      let own = own_of b.nodes (s.reaches at.reached).sound in
      let names = at.known known in
      record { plain = names.plain; covered = covers_declared at.roots (λ d e h. (declared own.0 own.1 d e h.0, h.1)) (excepted own.0 own.1) names.covered };
  reads = λ K V ch own reads g named unbound.
      let before = own_of a.nodes at.reached.sound in
      stands_declared (declared K own) (excepted K own) (stands_reads_on (D.declaration a.nodes at.roots at.names) (D.exception a.nodes at.roots at.names) a.nodes b.nodes before.0 K at.roots before.1 own (s.refines at.reached K own) (λ k c e. (at.are_roots k c e).inside) V env (scope.env ch) reads
      (at.reads before.0 V ch before.1 (s.reads V reads) (agrees_before s g) (named_before scope s named) (bounds_before scope ch s at.reached unbound)));
  fits = λ K V ch own loose g named.
      let before = own_of a.nodes at.reached.sound in
      stands_declared (declared K own) (excepted K own) (stands_fits_on (D.declaration a.nodes at.roots at.names) (D.exception a.nodes at.roots at.names) a.nodes b.nodes before.0 K at.roots before.1 own (s.refines at.reached K own) (λ k c e. (at.are_roots k c e).inside) V V env (scope.env ch) (λ n lt. refl) loose
      (at.fits before.0 V ch before.1 (s.loose V loose) (agrees_before s g) (named_before scope s named)));
}
  where
    declared : (K : Types) → IsOwn b.nodes K → (d : Declaration) (e : rules.Declaration) → D.declaration a.nodes at.roots at.names d e → D.declaration b.nodes at.roots at.names d e
    declared K own d e h = let before = own_of a.nodes at.reached.sound in at.steady.declaration before.1 (s.refines at.reached K own) (λ r i. i) h

    excepted : (K : Types) → IsOwn b.nodes K → (c : Constructor) (o : Option Typ) → D.exception a.nodes at.roots at.names c o → D.exception b.nodes at.roots at.names c o
    excepted K own c o h = let before = own_of a.nodes at.reached.sound in at.steady.exception before.1 (s.refines at.reached K own) (λ r i. i) h

-- at each reading they stand for those of the scope, whatever the declarations are by
pub surrounds_sees : {D : Declared} {F : Frame} {a : Sight} {G : Letters} {env : List Entry} {scope : Scope} → Surrounds D F a G env scope → SeesScope F scope a G env
surrounds_sees {a = a} at V ch reads g named unbound =
    let own = own_of a.nodes at.reached.sound in
    let stand = stands_declared (λ d e h. at.steady.declared h) (λ c o h. at.steady.excepted h) (at.reads own.0 V ch own.1 reads g named unbound) in
    record { nodes = a.nodes; reads = reads; roots = at.roots; names = at.names; are = stand.names }

-- A part is typed among one name more: its type is that of an open node, in which no unknown type stands.
pub surrounds_named : {D : Declared} {F : Frame} {a : Sight} {G : Letters} {env : List Entry} {scope : Scope} {type : Choice → Typ} {e : Entry} {x : Name} {n : NodeRef} (place : rules.Place) → IsEntry e x place n → Means F a G type n.0 →
    ((V : Types) (ch : Choice) → Loose a.nodes V → Agrees F.owner a G V ch → IsKnown (V n.0)) → Surrounds D F a G env scope → Surrounds D F a G (e ∷ env) (with_one x place type scope)
surrounds_named {D} {F} {a} {G} {env} {scope} {type} {e} {x} {n} place is p known at = record {
  reached = at.reached;
  inside = at.inside;
  fixed = at.fixed;
  written = at.written;
  item = at.item;
  roots = n.0 ∷ at.roots;
  names = at.names;
  apart = at.apart;
  steady = at.steady;
  are_roots = are_roots;
  covered = let own = own_of a.nodes at.reached.sound in one_more (declared own.0 own.1) (excepted own.0 own.1) at.covered;
  known = λ known.
      let own = own_of a.nodes at.reached.sound in
      let names = at.known known in
      record { plain = names.plain; covered = one_more (λ d f h. (declared own.0 own.1 d f h.0, h.1)) (excepted own.0 own.1) names.covered };
  reads = λ J V ch own reads g named unbound.
      let loose = fits_loosely a.nodes V reads.fits in
      let scheme = one_type_reads a.nodes J V n.0 own reads p.open_node.inside (known V ch loose g) (λ v o. free J own v o) in
      subst (λ t. Stands SchemeReads (D.declaration a.nodes (n.0 ∷ at.roots) at.names) (D.exception a.nodes (n.0 ∷ at.roots) at.names) a.nodes J (n.0 ∷ at.roots) V (e ∷ env) (entry x place (a_value (monomorphic t)) ∷ scope.env ch)) (sym (p.is V ch loose g))
      (stands_declared (declared J own) (excepted J own) (stands_named SchemeReads (D.declaration a.nodes at.roots at.names) (D.exception a.nodes at.roots at.names) a.nodes J V at.roots env (scope.env ch) own e x place n (monomorphic (V n.0)) is.named is.kind is.placed is.is scheme scheme.free (at.reads J V ch own reads g named unbound)));
  fits = λ J V ch own loose g named.
      let scheme = one_type_fits a.nodes J V n.0 own loose p.open_node.inside (known V ch loose g) in
      subst (λ t. Stands SchemeFits (D.declaration a.nodes (n.0 ∷ at.roots) at.names) (D.exception a.nodes (n.0 ∷ at.roots) at.names) a.nodes J (n.0 ∷ at.roots) V (e ∷ env) (entry x place (a_value (monomorphic t)) ∷ scope.env ch)) (sym (p.is V ch loose g))
      (stands_declared (declared J own) (excepted J own) (stands_named SchemeFits (D.declaration a.nodes at.roots at.names) (D.exception a.nodes at.roots at.names) a.nodes J V at.roots env (scope.env ch) own e x place n (monomorphic (V n.0)) is.named is.kind is.placed is.is scheme scheme.free (at.fits J V ch own loose g named)));
}
  where
    declared : (J : Types) → IsOwn a.nodes J → (d : Declaration) (f : rules.Declaration) → D.declaration a.nodes at.roots at.names d f → D.declaration a.nodes (n.0 ∷ at.roots) at.names d f
    declared J own d f h = at.steady.declaration own (refines_none a.nodes J own) (λ r i. more_in at.roots n.0 r i) h

    excepted : (J : Types) → IsOwn a.nodes J → (c : Constructor) (o : Option Typ) → D.exception a.nodes at.roots at.names c o → D.exception a.nodes (n.0 ∷ at.roots) at.names c o
    excepted J own c o h = at.steady.exception own (refines_none a.nodes J own) (λ r i. more_in at.roots n.0 r i) h

    no_types : Choice
    no_types = no_choice

    -- roots with that of the name
    one_more : {P P' : Declaration → rules.Declaration → Type 0} {Q Q' : Constructor → Option Typ → Type 0} → ((d : Declaration) (f : rules.Declaration) → P d f → P' d f) → ((c : Constructor) (o : Option Typ) → Q c o → Q' c o) → Covers P Q at.roots env → Covers P' Q' (n.0 ∷ at.roots) (e ∷ env)
    one_more {P} {P'} {Q} {Q'} more also (E, h) = (
      entry x place (a_value (monomorphic (type no_types))) ∷ E,
      newest (entry_as is.named (sym is.kind) is.placed (of_value is.is (zero, refl))) (env_map (λ r sc. IsIn at.roots r) (λ r sc. IsIn (n.0 ∷ at.roots) r) P P' Q Q' (λ r sc k. more_in at.roots n.0 r k) more also h),
    )

    free : (J : Types) → IsOwn a.nodes J → (v : ℕ) → occurs v (J n.0) ≡ true → IsFreeVar a.nodes v
    free J own v o = let low = p.open_node.free J own v o in record { level = low.level; scope = low.scope; at = low.at; free = low.free }

    are_roots : (k r : ℕ) → slice_get (n.0 ∷ at.roots) k ≡ Some r → IsRoot F a r
    are_roots zero r f = let s : n.0 ≡ r = cc in subst (IsRoot F a) s (record { inside = p.open_node.inside; within = p.open_node.within; low = λ J own v l o h e free. low_as J own v l o h e })
      where
        low_as : (J : Types) → IsOwn a.nodes J → (v l o : ℕ) → occurs v (J n.0) ≡ true → slice_get a.nodes v ≡ Some (Var l o) → l ≤ F.level
        low_as J own v l o h e = let low = p.open_node.free J own v h in let s : l ≡ low.level = same_node a.nodes v l o low.level low.scope e low.at in let y = low.low in omega arith
    are_roots (suc k) r f = at.are_roots k r f

-- The same of the scope in which the demands of these nodes are made.
pub surrounds_with : {D : Declared} {F : Frame} {a : Sight} {G : Letters} {env : List Entry} {scope : Scope} (own : ℕ → Bool) → Surrounds D F a G env scope → Surrounds D F a G env (with_own own scope)
surrounds_with own at = record {
  reached = at.reached;
  inside = at.inside;
  fixed = at.fixed;
  written = at.written;
  item = at.item;
  roots = at.roots;
  names = at.names;
  apart = at.apart;
  steady = at.steady;
  are_roots = at.are_roots;
  covered = at.covered;
  known = at.known;
  reads = at.reads;
  fits = at.fits;
}

-- and of that in which those of this node are
pub surrounds_at : {D : Declared} {F : Frame} {a : Sight} {G : Letters} {env : List Entry} {scope : Scope} (n : ℕ) → Surrounds D F a G env scope → Surrounds D F a G env (at_node n scope)
surrounds_at n at = surrounds_with (λ m. n == m) at

-- a node's demands are made there
pub own_node : (n : ℕ) → (n == n) ≡ true
own_node n = eqb_same n

-- the names stand for those of the scope after a call
pub sees_on : {F : Frame} (scope : Scope) {a b : Sight} {G H : Letters} {env : List Entry} → Stays F a G b H → Reaches F a → SeesScope F scope a G env → SeesScope F scope b H env
sees_on scope s r sees V ch reads agrees named unbound = sees V ch (s.reads V reads) (agrees_before s agrees) (named_before scope s named) (bounds_before scope ch s r unbound)
