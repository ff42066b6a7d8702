-- After an exception is declared the names are those of before with its own.
use Rattle.std.proofs.Common.{◌≡◌, ◌&&◌, ℕ, zero, ◌<◌, true, List, [], ◌∷◌, length, Option, refl, sym, subst}
use Rattle.std.specs.declared.rc.Rc.{Rc}
use Rattle.std.specs.declared.alloc.Global.{Global}
use Rattle.text_terms.specs.Bytes.{str_bytes}
use Rattle.type_model.specs.Types.{Typ, occurs}
use Rattle.type_model.specs.Schemes.{Scheme}
use Rattle.signature_model.specs.Declarations as rules
use Rattle.signature_model.specs.Matching.{IsKnown}
use Rattle.signature_model.specs.Entries.{Environment, an_exception}
use Rattle.signature_model.specs.Entries.{Entry as Named, kind_of as kind_named}
use Rattle.signature_model.specs.Records.{is_some}
use Rattle.typing_model.specs.BuiltIns.{exn_type}
use Rattle.typing_model.specs.Contexts.{Choice}
use Rattle.type_nodes.specs.Nodes.{IsSound}
use Rattle.type_nodes.specs.Readings.{Types}
use Rattle.env_table.specs.declared.entries.Constructor.{Constructor}
use Rattle.env_table.specs.declared.entries.Declaration.{Declaration}
use Rattle.env_table.specs.declared.entries.Entry.{Entry}
use Rattle.env_table.specs.declared.entries.What.TheVariants as what
use Rattle.env_table.specs.Views.{kind_of}
use Rattle.typing_conditions.specs.Locals.{IsPlain, IsOwn, ClosesAll}
use Rattle.typing_conditions.specs.Environments.{defined_at, WhatAs, EnvAs, of_exception, entry_as, no_names, newest}
use Rattle.typing_conditions.specs.Surroundings.{HasOwnLabels}
use Rattle.typing_conditions.specs.Declared.{NoneUnknown, RootAs, building, DeclaredAs, ExceptionAs}
use Rattle.typing_conditions.specs.Sights.{Sight, Letters}
use Rattle.typing_steps.specs.Typing.{as_declared}
use Rattle.binding_rows.specs.Outside.{Outside}
use Rattle.declared_rows.specs.Assignments.{Assigned, Denotes}
use Rattle.declared_rows.proofs.Starting.{declaring_frame}
use Rattle.first_laws.specs.Declaring.{NoneTyped, OnlyTypes, SpecifiedAs, AddsKnown, StartsAfter}
use Rattle.first_laws.proofs.Known.{knows_option, building_known}
use Rattle.first_laws.proofs.Whole.{one_denotes, one_type, names, names_plain, whole_types, whole_root, outside_whole, whole_known}

-- An exception whose root r denotes the type of its constructor, which is that of exceptions or an arrow to it.
module _ {a b : Sight} (c : Sight) {G : Letters} {env : List Entry} {E : Choice → Environment} (at : Outside as_declared a G env E) (I : Types) (own : IsOwn a.nodes I) (n : ℕ) (n_inside : n < length a.nodes) (none : (v : ℕ) → occurs v (I n) ≡ true → ⊥)
    {start : Sight} (from : start.nodes ≡ a.nodes) {U : List ℕ} (x : Assigned (declaring_frame a I at.roots n) 0 U start b (record { types = I; nodes = n ∷ []; older = at.older }))
    {r : ℕ} (argument : Option Typ) (denotes : Denotes x.after r (building exn_type argument)) (closes : (K : Types) → IsOwn b.nodes K → ClosesAll b.nodes c.nodes K (r ∷ []) 0) (plain : IsPlain c.nodes) (sound : IsSound c.nodes) (level : c.level ≡ a.level) (types : NoneTyped a c) where
  -- types alone were made
  pub exception_types : OnlyTypes a c
  exception_types = whole_types c at I own n n_inside none from x (r ∷ []) (one_denotes x (building exn_type argument) denotes) closes plain sound level types

  abbrev N : Types
  N = names c at I own n n_inside none from x (r ∷ []) (one_denotes x (building exn_type argument) denotes) closes plain sound level types

  -- no variable has an unknown type as its name, where none stands in that of the argument
  pub exception_plain : knows_option argument ≡ true → NoneUnknown at.names → NoneUnknown N
  exception_plain known = names_plain c at I own n n_inside none from x (r ∷ []) (one_denotes x (building exn_type argument) denotes) closes plain sound level types
      (λ k s e. subst IsKnown (sym (one_type x (building exn_type argument) denotes k s e)) (building_known exn_type argument (refl, tt) known))

  root_as : RootAs c.nodes (r ∷ at.roots) N 0 r (building exn_type argument)
  root_as = whole_root c at I own n n_inside none from x (r ∷ []) (one_denotes x (building exn_type argument) denotes) closes plain sound level types (zero, refl) denotes

  module _ (e : Entry) (f : Named) (cell : Rc Constructor Global) (is : e.what ≡ what.Exception cell) (root : cell.value.root.0 ≡ r) (takes : cell.value.has_argument ≡ is_some argument) (name : f.name ≡ str_bytes e.name) (kind : kind_named f.stands_for ≡ kind_of e.kind) (placed : defined_at e.place ≡ f.place) (stands : f.stands_for ≡ an_exception argument) where
    -- its entry, however what is declared and specified stands for that of the definitions
    entry_stands : (S : ℕ → Scheme → Type 0) (D : Declaration → rules.Declaration → Type 0) → EnvAs S D (ExceptionAs c.nodes (r ∷ at.roots) N) (e ∷ []) (f ∷ [])
    entry_stands S D =
        newest (entry_as name kind placed (subst (WhatAs S D (ExceptionAs c.nodes (r ∷ at.roots) N) e.what) (sym stands)
        (of_exception is (record { takes = takes; root = subst (λ m. RootAs c.nodes (r ∷ at.roots) N 0 m (building exn_type argument)) (sym root) root_as })))) no_names

    keeps : knows_option argument ≡ true → AddsKnown c.nodes (r ∷ at.roots) at.names N (e ∷ []) (f ∷ [])
    keeps known = record {
      plain = exception_plain known;
      entries = entry_stands (SpecifiedAs c.nodes (r ∷ at.roots) N) (λ d g. DeclaredAs c.nodes (r ∷ at.roots) N d g × HasOwnLabels g);
    }

    -- The next item starts among the names of before and that of the exception.
    pub outside_exception : StartsAfter at c G (e ∷ []) (f ∷ []) U
    outside_exception = outside_whole c at I own n n_inside none from x (r ∷ []) (one_denotes x (building exn_type argument) denotes) closes plain sound level types (e ∷ []) (f ∷ []) (entry_stands (SpecifiedAs c.nodes (r ∷ at.roots) N) (DeclaredAs c.nodes (r ∷ at.roots) N)) (knows_option argument) keeps

    -- All that is to be known of names is, where it was, and no unknown type stands in that of the argument.
    pub exception_known : outside_exception.outside.known ≡ (at.known && knows_option argument)
    unfolding outside_exception
    exception_known = whole_known c at I own n n_inside none from x (r ∷ []) (one_denotes x (building exn_type argument) denotes) closes plain sound level types (e ∷ []) (f ∷ []) (entry_stands (SpecifiedAs c.nodes (r ∷ at.roots) N) (DeclaredAs c.nodes (r ∷ at.roots) N)) (knows_option argument) keeps
