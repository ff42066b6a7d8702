-- Several names at once, as a group of bindings or a pattern brings them into scope.
use Rattle.std.proofs.Common.{◌≡◌, ℕ, List, [], ◌∷◌, Option}
use Rattle.text_terms.specs.Bytes.{str_bytes}
use Rattle.type_model.specs.Types.{Typ}
use Rattle.type_model.specs.Schemes.{Scheme}
use Rattle.signature_model.specs.Declarations as rules
use Rattle.signature_model.specs.Entries.{Environment, value_kind}
use Rattle.typing_model.specs.Contexts.{Context, Bound, entries_with}
use Rattle.type_terms.specs.declared.types.NodeRef.{NodeRef}
use Rattle.type_nodes.specs.Nodes.{Node}
use Rattle.type_nodes.specs.Readings.{Types}
use Rattle.env_table.specs.declared.entries.Constructor.{Constructor}
use Rattle.env_table.specs.declared.entries.Declaration.{Declaration}
use Rattle.env_table.specs.declared.entries.Entry.{Entry}
use Rattle.env_table.specs.declared.entries.What.TheVariants as what
use Rattle.env_table.specs.Views.{kind_of}
use Rattle.typing_conditions.specs.Locals.{IsOwn}
use Rattle.typing_conditions.specs.Assumptions.{FreeAlike}
use Rattle.typing_conditions.specs.Environments.{defined_at}
use Rattle.typing_conditions.specs.Standing.{Stands}
use Rattle.typing_conditions.proofs.Standing.{stands_named}

-- entries before others, each before the one that was added last, as the code adds them
abbrev pub added : List Entry → List Entry → List Entry
added [] env = env
added (e ∷ es) env = added es (e ∷ env)

-- and their roots
abbrev pub joined : List ℕ → List ℕ → List ℕ
joined [] C = C
joined (n ∷ ns) C = joined ns (n ∷ C)

-- each entry is that of a bound name, and its root has the scheme of the name's type
pub data NamesStand (R : List Node → Types → ℕ → Scheme → Type 0) (nodes : List Node) (J V : Types) (scheme : Typ → Scheme) (c : Context) : List Entry → List Bound → List ℕ → Type 0 where
  no_more : NamesStand R nodes J V scheme c [] [] []
  name_more : {e : Entry} {es : List Entry} {b : Bound} {bs : List Bound} {ns : List ℕ} (n : NodeRef) → b.name ≡ str_bytes e.name → kind_of e.kind ≡ value_kind → defined_at e.place ≡ rules.in_text b.place → e.what ≡ what.Scheme n →
      R nodes V n.0 (scheme (b.has_type c)) → FreeAlike nodes V n.0 (scheme (b.has_type c)) →
      NamesStand R nodes J V scheme c es bs ns → NamesStand R nodes J V scheme c (e ∷ es) (b ∷ bs) (n.0 ∷ ns)

-- the environment after the names, as the definitions have it
pub stands_names : (R : List Node → Types → ℕ → Scheme → Type 0) (D : Declaration → rules.Declaration → Type 0) (X : Constructor → Option Typ → Type 0) (nodes : List Node) (J V : Types) (scheme : Typ → Scheme) (c : Context) → IsOwn nodes J →
    {es : List Entry} {bs : List Bound} {ns : List ℕ} → NamesStand R nodes J V scheme c es bs ns → (C : List ℕ) (env : List Entry) (E : Environment) →
    Stands R D X nodes J C V env E → Stands R D X nodes J (joined ns C) V (added es env) (entries_with scheme c bs E)
stands_names R D X nodes J V scheme c own no_more C env E s = s
stands_names R D X nodes J V scheme c own (name_more {e = e} {b = b} n named kind placed is r frees rest) C env E s =
    stands_names R D X nodes J V scheme c own rest (n.0 ∷ C) (e ∷ env) _
    (stands_named R D X nodes J V C env E own e b.name (rules.in_text b.place) n (scheme (b.has_type c)) named kind placed is r frees s)
