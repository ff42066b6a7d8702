-- The use of a value: the demand that its path is bound, and an instance of the scheme that it finds.
use Rattle.std.proofs.Common.{◌≡◌, ◌∙◌, ◌++◌, ℕ, Bool, true, false, List, [], ◌∷◌, Option, None, refl, sym, ap, subst, if◌then◌else◌}
use Rattle.token_model.specs.Kinds.{Tok}
use Rattle.type_model.specs.Types.{Typ}
use Rattle.type_model.specs.Schemes.{Scheme}
use Rattle.signature_model.specs.Declarations as rules
use Rattle.signature_model.specs.Entries.{value_kind}
use Rattle.signature_model.specs.Entries.{Entry as Named}
use Rattle.signature_model.specs.Lookups.{FoundAmong, an_entry, a_hole, nothing}
use Rattle.typing_model.specs.Demands.{Site, Word, Condition}
use Rattle.typing_model.specs.Contexts.{Context}
use Rattle.typing_model.specs.Names.{names_of, referent_of, then_by, scheme_in}
use Rattle.typing_model.specs.Messages.{word_text}
use Rattle.type_terms.specs.declared.types.NodeRef.{NodeRef}
use Rattle.type_nodes.specs.Nodes.{IsSound, IsNode}
use Rattle.level_unify.specs.Instances.{Instantiated}
use Rattle.env_table.specs.declared.entries.Constructor.{Constructor}
use Rattle.env_table.specs.declared.entries.Declaration.{Declaration}
use Rattle.env_table.specs.declared.entries.Entry.{Entry}
use Rattle.env_table.specs.declared.entries.Kind.TheVariants as kind
use Rattle.env_table.specs.declared.entries.What.TheVariants as what
use Rattle.typing_state.specs.declared.parts.Parts.{Parts}
use Rattle.typing_state.specs.declared.messages.Word.{Word as Called}
use Rattle.typing_state.specs.Messages as messages
use Rattle.typing_state.specs.Goes.{OnlyStore}
use Rattle.typing_state.specs.Types.{MakesVar, any_scope, level_for}
use Rattle.typing_state.specs.Bound.{lost_among, found_at, BoundIs}
use Rattle.typing_conditions.specs.Standing.{IsIn}
use Rattle.typing_conditions.specs.Assumptions.{SchemeFits}
use Rattle.typing_conditions.proofs.Own.{own_of}
use Rattle.typing_conditions.proofs.Environments.{ComesTo, to_entry, to_hole, to_nothing, lookup_alike}
use Rattle.typing_conditions.specs.Sights.{Key, value_of, Letters, IsKnownFor}
use Rattle.typing_conditions.specs.Frames.{Frame}
use Rattle.typing_conditions.specs.Judging.{judged_at, AreKept}
use Rattle.typing_conditions.specs.Carrying.{Scope, CarriedTo}
use Rattle.typing_conditions.specs.Surroundings.{Declared, Surrounds}
use Rattle.typing_conditions.proofs.Branching.{carried_then}
use Rattle.typing_conditions.proofs.Surrounding.{surrounds_on}
use Rattle.typing_conditions.proofs.Using.{scheme_found, used_if}
use Rattle.typing_steps.specs.States.{is_aloud, sight}
use Rattle.typing_steps.specs.Demands.{JudgedAs, is_found_here, bound_asks}
use Rattle.typing_steps.proofs.Making.{var_made}
use Rattle.typing_steps.proofs.Testing.{AreSameHere, carried_here}
use Rattle.typing_steps.proofs.Finding.{bound_asked}
use Rattle.typing_steps.proofs.Schemes.{instance_used}

-- the demand that a value's path is bound, and what it is used as where the demand is kept
abbrev pub value_used_as : Context → Site → Word → List Tok → Tok → Typ → List Condition
value_used_as c s w qs t u = bound_asks c s value_kind w qs t ++ used_if (if c.kept s then scheme_found c.env (names_of qs) t.name else None) u

-- what the calls of a value's use share: the names stand for the scope's, faults are reported, and the path was looked up
pub record LooksUp (D : Declared) (F : Frame) (scope : Scope) (G : Letters) (env : List Entry) (a b : Parts) (given : Option Entry) (called : Called) (qs : List Tok) (t : Tok) : Type 0 where
  pub names : Surrounds D F (sight a) G env scope
  pub aloud : is_aloud a.telling ≡ true
  pub bound : BoundIs (found_at env qs kind.Value t) given a b (lost_among env qs) t called

module _ (a b d : Parts) {D : Declared} {F : Frame} {scope : Scope} {G : Letters} {env : List Entry} {given : Option Entry} {called : Called} {qs : List Tok} {t : Tok} (l : LooksUp D F scope G env a b given called qs t) (w : Word) (one : messages.word_text called ≡ word_text w) (s : Site)
    (key : Key) (free : (x : Typ) → IsKnownFor key x) where
  judged : JudgedAs F scope (λ c. bound_asks c s value_kind w qs t) (sight a) G (sight b) G s (is_found_here (found_at env qs kind.Value t))
  judged = bound_asked a b given called qs t kind.Value w one s l.names l.aloud l.bound

  kept_as : (c : Context) (v : Bool) → is_found_here (found_at env qs kind.Value t) ≡ v → AreKept c.kept judged.carried.judged → c.kept s ≡ v
  kept_as c v e h = let k : AreKept c.kept (judged_at s (is_found_here (found_at env qs kind.Value t)) false ∷ []) = subst (AreKept c.kept) judged.verdict h in k.0 ∙ e

  names_there : Surrounds D F (sight b) G env scope
  names_there = surrounds_on judged.carried.stays l.names

  -- The path finds an entry with a root: the name's type is an instance.
  pub value_found : {entry : Entry} {root : NodeRef} {m : ℕ} → found_at env qs kind.Value t ≡ an_entry entry → entry.what ≡ what.Scheme root → (IsNode b.store.nodes root.0 → IsSound d.store.nodes) →
      (IsNode b.store.nodes root.0 → Instantiated b.store.nodes d.store.nodes root.0 (level_for b.level) m) → OnlyStore b d →
      CarriedTo F scope (λ c. value_used_as c s w qs t (value_of c.chosen key)) (sight a) G (sight d) ((key, m) ∷ G) (λ ch. value_of ch key) m
  value_found finds is sound taken rest =
      let q = instance_used b d (names_of qs) t.name key free names_there finds is sound taken rest in
      record {
        carried = carried_then judged.carried (λ c h. ap (λ k. used_if (if k then scheme_found c.env (names_of qs) t.name else None) (value_of c.chosen key)) (kept_as c true (ap is_found_here finds) h)) q.carried;
        means = q.means;
      }

  -- The path finds nothing: the name may have any type.
  pub value_lost : {m : ℕ} → found_at env qs kind.Value t ≡ nothing → MakesVar b d m any_scope → OnlyStore b d →
      CarriedTo F scope (λ c. value_used_as c s w qs t (value_of c.chosen key)) (sight a) G (sight d) ((key, m) ∷ G) (λ ch. value_of ch key) m
  value_lost finds made rest =
      let q = var_made b d {scope = scope} key free names_there.reached made rest in
      record {
        carried = carried_then judged.carried (λ c h. ap (λ k. used_if (if k then scheme_found c.env (names_of qs) t.name else None) (value_of c.chosen key)) (kept_as c false (ap is_found_here finds) h)) q.carried;
        means = q.means;
      }

  hole_so : (R : ℕ → Scheme → Type 0) (E : Declaration → rules.Declaration → Type 0) (X : Constructor → Option Typ → Type 0) {x : FoundAmong Entry} {y : FoundAmong Named} → ComesTo R E X x y → x ≡ a_hole → then_by (referent_of y) scheme_in ≡ None
  hole_so R E X (to_entry h) e = absurd (cc)
  hole_so R E X to_hole e = refl
  hole_so R E X to_nothing e = refl

  -- The path is inside a hole: the name may have any type, and that is no fault.
  pub value_in_hole : {m : ℕ} → found_at env qs kind.Value t ≡ a_hole → MakesVar b d m any_scope → OnlyStore b d →
      CarriedTo F scope (λ c. value_used_as c s w qs t (value_of c.chosen key)) (sight a) G (sight d) ((key, m) ∷ G) (λ ch. value_of ch key) m
  value_in_hole finds made rest =
      let q = var_made b d {scope = scope} key free names_there.reached made rest in
      record {
        carried = carried_then judged.carried (λ c h. ap (λ k. used_if (if k then scheme_found c.env (names_of qs) t.name else None) (value_of c.chosen key)) (kept_as c true (ap is_found_here finds) h)) (carried_here same q.carried);
        means = q.means;
      }
    where
      same : AreSameHere F scope (sight b) G (λ c. []) (λ c. used_if (scheme_found c.env (names_of qs) t.name) (value_of c.chosen key))
      same V c loose under agrees named =
          let own = own_of b.store.nodes names_there.reached.sound in
          let stands = (names_there.fits own.0 V c.chosen own.1 loose agrees named).names in
          let R : ℕ → Scheme → Type 0 = λ r sc. SchemeFits b.store.nodes V r sc × IsIn names_there.roots r in
          let none = hole_so R (D.declaration b.store.nodes names_there.roots names_there.names) (D.exception b.store.nodes names_there.roots names_there.names) (lookup_alike R (D.declaration b.store.nodes names_there.roots names_there.names) (D.exception b.store.nodes names_there.roots names_there.names) (names_of qs) value_kind t.name stands) finds ∙ refl in
          ap (λ (o : Option Scheme). used_if o (value_of c.chosen key)) (sym (ap (λ E. scheme_found E (names_of qs) t.name) under.env ∙ none))
