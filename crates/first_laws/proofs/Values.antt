-- After a value is specified the names are those of before with its own.
use Rattle.std.proofs.Common.{◌≡◌, ℕ, zero, ◌<◌, true, false, List, [], ◌∷◌, length, refl, sym, subst}
use Rattle.text_terms.specs.Bytes.{str_bytes}
use Rattle.type_model.specs.Types.{Typ, occurs}
use Rattle.signature_model.specs.Entries.{Environment, a_value}
use Rattle.signature_model.specs.Entries.{Entry as Named, kind_of as kind_named}
use Rattle.signature_model.specs.Matching.{IsKnown}
use Rattle.typing_laws.proofs.Bools.{no_yes}
use Rattle.typing_model.specs.Modules.{all_bound}
use Rattle.typing_model.specs.Contexts.{Choice}
use Rattle.type_nodes.specs.Nodes.{IsSound}
use Rattle.type_nodes.specs.Readings.{Types}
use Rattle.type_terms.specs.declared.types.NodeRef.{NodeRef}
use Rattle.env_table.specs.declared.entries.Entry.{Entry}
use Rattle.env_table.specs.declared.entries.What.TheVariants as what
use Rattle.env_table.specs.Views.{kind_of}
use Rattle.typing_conditions.specs.Locals.{IsPlain, IsOwn, ClosesAll}
use Rattle.typing_conditions.specs.Environments.{defined_at, WhatAs, of_value, entry_as, no_names, newest}
use Rattle.typing_conditions.specs.Declared.{RootAs, DeclaredAs, ExceptionAs}
use Rattle.typing_conditions.specs.Sights.{Sight, Letters}
use Rattle.typing_steps.specs.Typing.{as_declared}
use Rattle.binding_rows.specs.Outside.{Outside}
use Rattle.declared_rows.specs.Assignments.{Assigned, Denotes}
use Rattle.declared_rows.proofs.Starting.{declaring_frame}
use Rattle.first_laws.specs.Declaring.{NoneTyped, OnlyTypes, SpecifiedAs, StartsAfter}
use Rattle.first_laws.proofs.Whole.{one_denotes, names, whole_types, whole_root, outside_whole}

-- A value whose root r denotes its type, in which no unknown type stands.
module _ {a b : Sight} (c : Sight) {G : Letters} {env : List Entry} {E : Choice → Environment} (at : Outside as_declared a G env E) (I : Types) (own : IsOwn a.nodes I) (n : ℕ) (n_inside : n < length a.nodes) (none : (v : ℕ) → occurs v (I n) ≡ true → ⊥)
    {start : Sight} (from : start.nodes ≡ a.nodes) {arity : ℕ} {U : List ℕ} (x : Assigned (declaring_frame a I at.roots n) arity U start b (record { types = I; nodes = n ∷ []; older = at.older }))
    {r : ℕ} (t : Typ) (known : IsKnown t) (denotes : Denotes x.after r t) (closes : (K : Types) → IsOwn b.nodes K → ClosesAll b.nodes c.nodes K (r ∷ []) 0) (plain : IsPlain c.nodes) (sound : IsSound c.nodes) (level : c.level ≡ a.level) (types : NoneTyped a c) where
  -- types alone were made
  pub value_types : OnlyTypes a c
  value_types = whole_types c at I own n n_inside none from x (r ∷ []) (one_denotes x t denotes) closes plain sound level types

  abbrev N : Types
  N = names c at I own n n_inside none from x (r ∷ []) (one_denotes x t denotes) closes plain sound level types

  root_as : RootAs c.nodes (r ∷ at.roots) N arity r t
  root_as = whole_root c at I own n n_inside none from x (r ∷ []) (one_denotes x t denotes) closes plain sound level types (zero, refl) denotes

  -- The next item starts among the names of before and that of the value.
  pub outside_value : (e : Entry) (f : Named) (cell : NodeRef) → e.what ≡ what.Scheme cell → cell.0 ≡ r → f.name ≡ str_bytes e.name → kind_named f.stands_for ≡ kind_of e.kind → defined_at e.place ≡ f.place → f.stands_for ≡ a_value (all_bound t) → StartsAfter at c G (e ∷ []) (f ∷ []) U
  outside_value e f cell is root name kind placed stands =
      outside_whole c at I own n n_inside none from x (r ∷ []) (one_denotes x t denotes) closes plain sound level types (e ∷ []) (f ∷ [])
      (newest (entry_as name kind placed (subst (WhatAs (SpecifiedAs c.nodes (r ∷ at.roots) N) (DeclaredAs c.nodes (r ∷ at.roots) N) (ExceptionAs c.nodes (r ∷ at.roots) N) e.what) (sym stands)
      (of_value is (record { arity = arity; type = t; scheme = refl; known = known; root = subst (λ m. RootAs c.nodes (r ∷ at.roots) N arity m t) (sym root) root_as })))) no_names)
      false (λ e. absurd (no_yes e))
