-- What a part is typed among after a `let`: each name of the group has its type generalised in the environment outside.
use Rattle.std.proofs.Common.{◌≡◌, ◌∙◌, ◌⊎◌, ℕ, zero, suc, ◌<◌, true, false, ◌||◌, List, [], ◌∷◌, Option, Some, refl, sym, subst, arith, inl, inr}
use Rattle.std.specs.Prelude.{slice_get}
use Rattle.type_model.specs.Types.{Typ, occurs}
use Rattle.type_model.specs.Schemes.{Scheme}
use Rattle.type_model.proofs.Applying.{or_left, or_right}
use Rattle.signature_model.specs.Declarations as rules
use Rattle.signature_model.specs.Entries.{entry, a_value, free_in}
use Rattle.signature_model.specs.Matching.{IsKnown}
use Rattle.typing_model.specs.Contexts.{Choice, Bound, monomorphic, occurs_in, generalised_in}
use Rattle.typing_model.specs.Typings.{no_choice}
use Rattle.type_terms.specs.declared.types.NodeRef.{NodeRef}
use Rattle.type_nodes.specs.Nodes.{Node, bound_level}
use Rattle.type_nodes.specs.Readings.{Types, IsReading}
use Rattle.level_unify.specs.Solutions.{Loose}
use Rattle.level_unify.specs.Instances.{is_bound}
use Rattle.level_unify.proofs.Unified.{fits_loosely}
use Rattle.env_table.specs.declared.entries.Constructor.{Constructor}
use Rattle.env_table.specs.declared.entries.Declaration.{Declaration}
use Rattle.env_table.specs.declared.entries.Entry.{Entry}
use Rattle.typing_conditions.specs.Locals.{IsOwn}
use Rattle.typing_conditions.specs.Assumptions.{SchemeFits, SchemeReads}
use Rattle.typing_conditions.specs.Environments.{of_value, entry_as, newest}
use Rattle.typing_conditions.specs.Standing.{IsIn, Covers, Stands}
use Rattle.typing_conditions.proofs.Own.{own_of}
use Rattle.typing_conditions.proofs.Regions.{any_in, in_any}
use Rattle.typing_conditions.proofs.Steps.{stands_after, old_or_new, same_node, refines_none}
use Rattle.typing_conditions.proofs.Closing.{still_free}
use Rattle.typing_conditions.proofs.Environments.{env_map}
use Rattle.typing_conditions.proofs.Generalised.{Fixes, name_fits, name_reads}
use Rattle.typing_conditions.proofs.Standing.{more_in, none_free}
use Rattle.typing_conditions.proofs.Groups.{NamesStand, no_more, name_more, added, joined, stands_names}
use Rattle.typing_conditions.specs.Sights.{Sight, Letters, Agrees}
use Rattle.typing_conditions.specs.Frames.{Frame, IsWritten, IsHeld, IsRoot}
use Rattle.typing_conditions.specs.Carrying.{Asks, Scope, HoldsWritten, HoldsUnbound}
use Rattle.typing_conditions.proofs.Surrounding.{stands_declared, covers_declared}
use Rattle.typing_conditions.specs.Surroundings.{Declared, Surrounds, IsEntry, context_of, with_closed}
use Rattle.typing_conditions.proofs.Outward.{GroupTyped, I, inner_reached, before_closing, group_context, name_nodes, low_held, within_outer}

-- all variables of a node's type are held
abbrev pub HasHeld : Frame → Sight → Letters → (Choice → List Typ) → ℕ → Type 0
HasHeld F d H held n = (V : Types) (ch : Choice) → Loose d.nodes V → Agrees F.owner d H V ch → (w : ℕ) → occurs w (V n) ≡ true → occurs_in w (held ch) ≡ true

-- the code's entries of the names of a group, whose nodes are among those that were closed; each has the name's type, in which no unknown type stands
pub data ClosedNames (F : Frame) (d : Sight) (H : Letters) (names : List ℕ) : List Entry → List Bound → List ℕ → Type 0 where
  no_closed : ClosedNames F d H names [] [] []
  one_closed : {e : Entry} {es : List Entry} {b : Bound} {bs : List Bound} {ns : List ℕ} (n : NodeRef) → IsEntry e b.name (rules.in_text b.place) n → IsIn names n.0 →
      ((V : Types) (ch : Choice) → Loose d.nodes V → Agrees F.owner d H V ch → (b.has_type (context_of ch) ≡ V n.0) × IsKnown (V n.0)) → ClosedNames F d H names es bs ns → ClosedNames F d H names (e ∷ es) (b ∷ bs) (n.0 ∷ ns)

-- The names of a group are generalised over all variables but those of the environment and those that are held: after closing, in the frame around it, the names of before
-- stand for the same; each root of the frame further in is one of theirs or is held, as is what is written, where the scope holds all that is written; and at a
-- reading no bound variable is held.
pub record HoldsRest (D : Declared) {F : Frame} {scope : Scope} {asks : Asks} {a b c d : Sight} {J : Types} {roots names : List ℕ} {held : ℕ → List ℕ} {G H : Letters} (l : GroupTyped F scope asks a b c d J roots names held G H) (env : List Entry)
    (types : Choice → List Typ) : Type 0 where
  pub at : Surrounds D F d H env scope
  pub roots_held : HoldsWritten scope d → (k r : ℕ) → slice_get roots k ≡ Some r → IsIn at.roots r ⊎ HasHeld F d H types r
  pub limits_held : (n : ℕ) → IsIn (held F.level) n → HasHeld F d H types n
  pub written_held : HoldsWritten scope d → (n : ℕ) → IsWritten d n → HasHeld F d H types n
  pub none_bound : (V : Types) (ch : Choice) → IsReading d.nodes V → Agrees F.owner d H V ch → HoldsUnbound F scope d ch → (v : ℕ) → is_bound d.nodes v ≡ true → occurs_in v (types ch) ≡ false

module _ {D : Declared} {F : Frame} {scope : Scope} {asks : Asks} {a b c d : Sight} {J : Types} {roots names : List ℕ} {held : ℕ → List ℕ} {G H : Letters} (l : GroupTyped F scope asks a b c d J roots names held G H) {env : List Entry}
    {types : Choice → List Typ} (rest : HoldsRest D l env types) where
  -- what a scheme isn't to bind is free in the environment or held
  fixes : {R : List Node → Types → ℕ → Scheme → Type 0} → HoldsWritten scope d → (M V : Types) (ch : Choice) → IsOwn d.nodes M → Loose d.nodes V → Agrees F.owner d H V ch → Stands R (D.declaration d.nodes rest.at.roots rest.at.names) (D.exception d.nodes rest.at.roots rest.at.names) d.nodes M rest.at.roots V env (scope.env ch) →
      Fixes d.nodes M V roots ((inner_reached l).held F.level) (scope.env ch) (types ch)
  fixes named M V ch own loose g s = record {
    roots = λ u w free h o.
        let i = in_any u M roots h in
        elim (rest.roots_held named i.place i.node i.at) [
          | inl (k, e) ↦ or_left (free_in w (scope.env ch)) (occurs_in w (types ch)) (s.brings u w free (any_in u M rest.at.roots k i.node e i.occurs) o)
          | inr has ↦ or_right (free_in w (scope.env ch)) (occurs_in w (types ch)) (has V ch loose g w (stands_after d.nodes M V own loose i.node u w i.occurs o))
        ];
    extra = λ u w free h o.
        let i = in_any u M ((inner_reached l).held F.level) h in
        or_right (free_in w (scope.env ch)) (occurs_in w (types ch)) (held_here i.node ((inner_reached l).only_held F.level i.node (below F.level) (i.place, i.at)) V ch loose g w (stands_after d.nodes M V own loose i.node u w i.occurs o));
  }
    where
      below : (n : ℕ) → n < suc n
      below n = omega arith

      held_here : (n : ℕ) → IsHeld (I l) c F.level n → HasHeld F d H types n
      held_here n (inl there) = rest.limits_held n there
      held_here n (inr (le, (x, e))) = rest.written_held named n (x, l.out.written x ∙ e)

  -- the scheme of a name, under types that fit
  scheme_fits : HoldsWritten scope d → (M V : Types) (ch : Choice) → IsOwn d.nodes M → Loose d.nodes V → Agrees F.owner d H V ch → Stands SchemeFits (D.declaration d.nodes rest.at.roots rest.at.names) (D.exception d.nodes rest.at.roots rest.at.names) d.nodes M rest.at.roots V env (scope.env ch) → (k r : ℕ) → slice_get names k ≡ Some r → IsKnown (V r) →
      SchemeFits d.nodes V r (generalised_in (scope.env ch) (types ch) (V r))
  scheme_fits named M V ch own loose g s k r e known =
      let own_c = before_closing l M own in
      name_fits a.nodes c.nodes d.nodes J M roots names (inner_reached l).held F.level l.goes_in.own own_c (group_context l) ((inner_reached l).local M own_c) (name_nodes l) (low_held l M own_c) (l.out.closes M own_c) V (scope.env ch) (types ch) loose
      (fixes named M V ch own loose g s) k r e known

  -- and at each reading
  scheme_reads : HoldsWritten scope d → (M V : Types) (ch : Choice) → HoldsUnbound F scope d ch → IsOwn d.nodes M → IsReading d.nodes V → Agrees F.owner d H V ch → Stands SchemeReads (D.declaration d.nodes rest.at.roots rest.at.names) (D.exception d.nodes rest.at.roots rest.at.names) d.nodes M rest.at.roots V env (scope.env ch) → (k r : ℕ) → slice_get names k ≡ Some r → IsKnown (V r) →
      SchemeReads d.nodes V r (generalised_in (scope.env ch) (types ch) (V r))
  scheme_reads named M V ch unbound own reads g s k r e known =
      let own_c = before_closing l M own in
      name_reads a.nodes c.nodes d.nodes J M roots names (inner_reached l).held F.level l.goes_in.own own_c (group_context l) ((inner_reached l).local M own_c) (name_nodes l) (low_held l M own_c) (l.out.closes M own_c) V (scope.env ch) (types ch) reads
      (fixes named M V ch own (fits_loosely d.nodes V reads.fits) g s)
      (λ v h. let p = none_free (D.declaration d.nodes rest.at.roots rest.at.names) (D.exception d.nodes rest.at.roots rest.at.names) d.nodes M V rest.at.roots env (scope.env ch) s v h in let q = rest.none_bound V ch reads g unbound v h in (λ i. p i || q i)) k r e known

  names_fit : HoldsWritten scope d → (M V : Types) (ch : Choice) → IsOwn d.nodes M → Loose d.nodes V → Agrees F.owner d H V ch → Stands SchemeFits (D.declaration d.nodes rest.at.roots rest.at.names) (D.exception d.nodes rest.at.roots rest.at.names) d.nodes M rest.at.roots V env (scope.env ch) → {es : List Entry} {bs : List Bound} {ns : List ℕ} →
      ClosedNames F d H names es bs ns → NamesStand SchemeFits d.nodes M V (generalised_in (scope.env ch) (types ch)) (context_of ch) es bs ns
  names_fit named M V ch own loose g s no_closed = no_more
  names_fit named M V ch own loose g s (one_closed n is (k, e) typed more) =
      let t = typed V ch loose g in
      let f = subst (λ x. SchemeFits d.nodes V n.0 (generalised_in (scope.env ch) (types ch) x)) (sym t.0) (scheme_fits named M V ch own loose g s k n.0 e t.1) in
      name_more n is.named is.kind is.placed is.is f f.free (names_fit named M V ch own loose g s more)

  names_read : HoldsWritten scope d → (M V : Types) (ch : Choice) → HoldsUnbound F scope d ch → IsOwn d.nodes M → IsReading d.nodes V → Agrees F.owner d H V ch → Stands SchemeReads (D.declaration d.nodes rest.at.roots rest.at.names) (D.exception d.nodes rest.at.roots rest.at.names) d.nodes M rest.at.roots V env (scope.env ch) → {es : List Entry} {bs : List Bound} {ns : List ℕ} →
      ClosedNames F d H names es bs ns → NamesStand SchemeReads d.nodes M V (generalised_in (scope.env ch) (types ch)) (context_of ch) es bs ns
  names_read named M V ch unbound own reads g s no_closed = no_more
  names_read named M V ch unbound own reads g s (one_closed n is (k, e) typed more) =
      let loose = fits_loosely d.nodes V reads.fits in
      let t = typed V ch loose g in
      let f = subst (λ x. SchemeReads d.nodes V n.0 (generalised_in (scope.env ch) (types ch) x)) (sym t.0) (scheme_reads named M V ch unbound own reads g s k n.0 e t.1) in
      name_more n is.named is.kind is.placed is.is f f.free (names_read named M V ch unbound own reads g s more)

  -- a closed name is a root: its variables above the level are bound
  name_root : (n : ℕ) → IsIn names n → IsRoot F d n
  name_root n (j, at_j) = record {
    inside = let own = own_of d.nodes l.out.sound in let q = (l.out.closes own.0 (before_closing l own.0 own.1)).len in let i = (name_nodes l j n at_j).0 in omega arith;
    within = within_outer l l.goes_in.reached (name_nodes l j n at_j).1;
    low = λ M own v k o h e free. elim (old_or_new F.level k) [
      | inr le ↦ le
      | inl above ↦
          let closes = l.out.closes M (before_closing l M own) in
          let was = still_free c.nodes d.nodes M names F.level v k o closes e free in
          absurd (free (same_node d.nodes v k o bound_level o e (closes.binds v k o was free above (any_in v M names j n at_j h))))
    ];
  }

  joined_roots : {es : List Entry} {bs : List Bound} {ns : List ℕ} → ClosedNames F d H names es bs ns → (C : List ℕ) → ((k r : ℕ) → slice_get C k ≡ Some r → IsRoot F d r) → (k r : ℕ) → slice_get (joined ns C) k ≡ Some r → IsRoot F d r
  joined_roots no_closed C roots_of = roots_of
  joined_roots (one_closed n is i typed more) C roots_of = joined_roots more (n.0 ∷ C) first
    where
      first : (k r : ℕ) → slice_get (n.0 ∷ C) k ≡ Some r → IsRoot F d r
      first zero r e = let s : n.0 ≡ r = cc in subst (IsRoot F d) s (name_root n.0 i)
      first (suc k) r e = roots_of k r e

  -- more roots, with those of the names
  joined_more : {es : List Entry} {bs : List Bound} {ns : List ℕ} → ClosedNames F d H names es bs ns → (C : List ℕ) (r : ℕ) → IsIn C r → IsIn (joined ns C) r
  joined_more no_closed C r i = i
  joined_more (one_closed n is j typed more) C r i = joined_more more (n.0 ∷ C) r (more_in C n.0 r i)

  -- declarations stand for the same among more roots
  declared_more : (M : Types) → IsOwn d.nodes M → {es : List Entry} {bs : List Bound} {ns : List ℕ} → ClosedNames F d H names es bs ns → (x : Declaration) (e : rules.Declaration) →
      D.declaration d.nodes rest.at.roots rest.at.names x e → D.declaration d.nodes (joined ns rest.at.roots) rest.at.names x e
  declared_more M own closed x e h = rest.at.steady.declaration own (refines_none d.nodes M own) (joined_more closed rest.at.roots) h

  excepted_more : (M : Types) → IsOwn d.nodes M → {es : List Entry} {bs : List Bound} {ns : List ℕ} → ClosedNames F d H names es bs ns → (x : Constructor) (o : Option Typ) →
      D.exception d.nodes rest.at.roots rest.at.names x o → D.exception d.nodes (joined ns rest.at.roots) rest.at.names x o
  excepted_more M own closed x o h = rest.at.steady.exception own (refines_none d.nodes M own) (joined_more closed rest.at.roots) h

  joined_covers : {E : Declaration → rules.Declaration → Type 0} {X : Constructor → Option Typ → Type 0} {es : List Entry} {bs : List Bound} {ns : List ℕ} → ClosedNames F d H names es bs ns → (C : List ℕ) (inside : List Entry) → Covers E X C inside → Covers E X (joined ns C) (added es inside)
  joined_covers no_closed C inside covers = covers
  joined_covers {E} {X} (one_closed {e = e} {b = b} n is i typed more) C inside (fs, h) = joined_covers more (n.0 ∷ C) (e ∷ inside) (
    entry b.name (rules.in_text b.place) (a_value (monomorphic (b.has_type (context_of no_choice)))) ∷ fs,
    newest (entry_as is.named (sym is.kind) is.placed (of_value is.is (zero, refl)))
        (env_map (λ r sc. IsIn C r) (λ r sc. IsIn (n.0 ∷ C) r) E E X X (λ r sc k. more_in C n.0 r k) (λ x f k. k) (λ x o k. k) h),
  )

  -- A part is typed among the names of the group, each with its type generalised.
  pub surrounds_closed : {es : List Entry} {bs : List Bound} {ns : List ℕ} → ClosedNames F d H names es bs ns → Surrounds D F d H (added es env) (with_closed bs types scope)
  surrounds_closed {es} {bs} {ns} closed = record {
    reached = rest.at.reached;
    inside = rest.at.inside;
    fixed = rest.at.fixed;
    written = rest.at.written;
    item = rest.at.item;
    roots = joined ns rest.at.roots;
    names = rest.at.names;
    apart = rest.at.apart;
    steady = rest.at.steady;
    are_roots = joined_roots closed rest.at.roots rest.at.are_roots;
    covered = let own = own_of d.nodes l.out.sound in covers_declared (joined ns rest.at.roots) (declared_more own.0 own.1 closed) (excepted_more own.0 own.1 closed) (joined_covers closed rest.at.roots env rest.at.covered);
    known = λ known.
        let own = own_of d.nodes l.out.sound in
        let names = rest.at.known known in
        record { plain = names.plain; covered = covers_declared (joined ns rest.at.roots) (λ x e h. (declared_more own.0 own.1 closed x e h.0, h.1)) (excepted_more own.0 own.1 closed) (joined_covers closed rest.at.roots env names.covered) };
    reads = λ M V ch own reads g named unbound.
        let s = rest.at.reads M V ch own reads g named unbound in
        stands_declared (declared_more M own closed) (excepted_more M own closed) (stands_names SchemeReads (D.declaration d.nodes rest.at.roots rest.at.names) (D.exception d.nodes rest.at.roots rest.at.names) d.nodes M V (generalised_in (scope.env ch) (types ch)) (context_of ch) own (names_read named M V ch unbound own reads g s closed) rest.at.roots env (scope.env ch) s);
    fits = λ M V ch own loose g named.
        let s = rest.at.fits M V ch own loose g named in
        stands_declared (declared_more M own closed) (excepted_more M own closed) (stands_names SchemeFits (D.declaration d.nodes rest.at.roots rest.at.names) (D.exception d.nodes rest.at.roots rest.at.names) d.nodes M V (generalised_in (scope.env ch) (types ch)) (context_of ch) own (names_fit named M V ch own loose g s closed) rest.at.roots env (scope.env ch) s);
  }
