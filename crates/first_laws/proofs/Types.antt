-- After a type of its own is declared, with constructors or labels, the names are those of before with its own.
use Rattle.std.proofs.Common.{◌≡◌, ◌∙◌, ℕ, ◌<◌, true, false, List, [], ◌∷◌, ◌++◌, length, Option, Some, sym, ap, subst}
use Rattle.std.specs.Prelude.{slice_get, option_map}
use Rattle.text_terms.specs.Bytes.{str_bytes}
use Rattle.type_terms.specs.Views.{path_of}
use Rattle.type_model.specs.Types.{Path, Typ, occurs}
use Rattle.type_model.specs.Types.{Typ as type}
use Rattle.type_model.specs.Schemes.{Scheme}
use Rattle.signature_model.specs.Declarations as rules
use Rattle.signature_model.specs.Declarations.{parameters_from}
use Rattle.signature_model.specs.Entries.{Environment}
use Rattle.signature_model.specs.Records.{is_some}
use Rattle.typing_laws.proofs.Bools.{no_yes}
use Rattle.typing_model.specs.Contexts.{Choice}
use Rattle.type_nodes.specs.Nodes.{Node, IsSound}
use Rattle.type_nodes.specs.Readings.{Types}
use Rattle.env_table.specs.declared.entries.Constructor.{Constructor}
use Rattle.env_table.specs.declared.entries.Declaration.{Declaration}
use Rattle.env_table.specs.declared.entries.Entry.{Entry}
use Rattle.env_table.specs.declared.entries.Label.{Label}
use Rattle.typing_conditions.specs.Locals.{IsPlain, IsOwn, ClosesAll}
use Rattle.typing_conditions.specs.Standing.{IsIn}
use Rattle.typing_conditions.specs.Environments.{EnvAs}
use Rattle.typing_conditions.specs.Declared.{RootAs, OneByOne, building, ConstructorAs, LabelAs, ShapeAs, with_parameters, DeclaredAs, ExceptionAs}
use Rattle.typing_conditions.specs.Sights.{Sight, Letters}
use Rattle.typing_conditions.proofs.Environments.{env_map}
use Rattle.typing_steps.specs.Typing.{as_declared}
use Rattle.binding_rows.specs.Outside.{Outside}
use Rattle.declared_rows.specs.Assignments.{Assignment, Assigned, Denotes}
use Rattle.declared_rows.proofs.Starting.{declaring_frame}
use Rattle.first_laws.specs.Declaring.{NoneTyped, SpecifiedAs, StartsAfter}
use Rattle.first_laws.specs.Built.{HasPath}
use Rattle.first_laws.proofs.Built.{origin_is}
use Rattle.first_laws.proofs.Whole.{DenotesSome, names, whole_root, outside_whole}
use Rattle.typing_conditions.proofs.DeclaredLater.{one_by_one}

-- a constructor of the code is one of the definitions: the same name, and its root denotes its type
pub record ConstructorDenotes (A : Assignment) (R : List ℕ) (result : Typ) (c : Constructor) (k : rules.Constructor) : Type 0 where
  pub name : k.name ≡ str_bytes c.name
  pub takes : c.has_argument ≡ is_some k.argument
  pub root : IsIn R c.root.0
  pub denotes : Denotes A c.root.0 (building result k.argument)

-- the same of a label
pub record LabelDenotes (A : Assignment) (R : List ℕ) (owner : Typ) (l : Label) (k : rules.Label) : Type 0 where
  pub name : k.name ≡ str_bytes l.name
  pub mutable : l.is_mutable ≡ k.is_mutable
  pub root : IsIn R l.root.0
  pub denotes : Denotes A l.root.0 (type.Arrow owner k.body)

-- A type of its own with this shape, whose root stands for it, stands for the declaration of the definitions.
pub own_type_as : {nodes : List Node} {C : List ℕ} {N : Types} {d : Declaration} {path : Path} {z : rules.Shape} (k : ℕ) → k ≡ d.arity → HasPath d.origin path → HasPath d.defines path → RootAs nodes C N k d.root.0 (with_parameters k (type.Con path (parameters_from 0 k))) →
    ShapeAs nodes C N k (type.Con path (parameters_from 0 k)) d.shape z → DeclaredAs nodes C N d (record { arity = k; definition = rules.Own path; shape = z })
own_type_as {d = d} {path = path} k arity origin defines root shape = record {
  arity = arity;
  origin = origin_is d.origin path origin;
  defines = let (o, e, is) = defines in ap (option_map path_of) e ∙ ap (λ p. Some p) is;
  root = root;
  shape = shape;
}

module _ {a b : Sight} (c : Sight) {G : Letters} {env : List Entry} {E : Choice → Environment} (at : Outside as_declared a G env E) (I : Types) (own : IsOwn a.nodes I) (n : ℕ) (n_inside : n < length a.nodes) (none : (v : ℕ) → occurs v (I n) ≡ true → ⊥)
    {start : Sight} (from : start.nodes ≡ a.nodes) {arity : ℕ} {U : List ℕ} (x : Assigned (declaring_frame a I at.roots n) arity U start b (record { types = I; nodes = n ∷ []; older = at.older }))
    (R : List ℕ) (denote : (k r : ℕ) → slice_get R k ≡ Some r → DenotesSome (declaring_frame a I at.roots n) arity U start b (record { types = I; nodes = n ∷ []; older = at.older }) x r) (closes : (K : Types) → IsOwn b.nodes K → ClosesAll b.nodes c.nodes K R 0) (plain : IsPlain c.nodes)
    (sound : IsSound c.nodes) (level : c.level ≡ a.level) (types : NoneTyped a c) where
  abbrev N : Types
  N = names c at I own n n_inside none from x R denote closes plain sound level types

  -- the constructors stand for those of the definitions
  pub constructors_as : {result : Typ} {cs : List Constructor} {ks : List rules.Constructor} → OneByOne (ConstructorDenotes x.after R result) cs ks → OneByOne (ConstructorAs c.nodes (R ++ at.roots) N arity result) cs ks
  constructors_as {result} h = one_by_one {P = ConstructorDenotes x.after R result} {Q = ConstructorAs c.nodes (R ++ at.roots) N arity result} (λ y k p. record { name = p.name; makes = record { takes = p.takes; root = whole_root c at I own n n_inside none from x R denote closes plain sound level types p.root p.denotes } }) h

  -- and the labels
  pub labels_as : {owner : Typ} {ls : List Label} {ks : List rules.Label} → OneByOne (LabelDenotes x.after R owner) ls ks → OneByOne (LabelAs c.nodes (R ++ at.roots) N arity owner) ls ks
  labels_as {owner} h = one_by_one {P = LabelDenotes x.after R owner} {Q = LabelAs c.nodes (R ++ at.roots) N arity owner} (λ y k p. record { name = p.name; mutable = p.mutable; root = whole_root c at I own n n_inside none from x R denote closes plain sound level types p.root p.denotes }) h

  -- The next item starts among the names of before, and those of this one declaration.
  pub outside_type : (d : Declaration) (e : rules.Declaration) → DeclaredAs c.nodes (R ++ at.roots) N d e → (more : List Entry) (fs : Environment) → EnvAs (λ r sc. ⊥) (λ d' e'. (d' ≡ d) × (e' ≡ e)) (λ y o. ⊥) more fs → StartsAfter at c G more fs U
  outside_type d e alike more fs entries = outside_whole c at I own n n_inside none from x R denote closes plain sound level types more fs
      (env_map (λ (r : ℕ) (sc : Scheme). ⊥) (SpecifiedAs c.nodes (R ++ at.roots) N) (λ (d' : Declaration) (e' : rules.Declaration). (d' ≡ d) × (e' ≡ e)) (DeclaredAs c.nodes (R ++ at.roots) N) (λ (y : Constructor) (o : Option Typ). ⊥) (ExceptionAs c.nodes (R ++ at.roots) N)
      (λ r sc h. absurd h) (λ d' e' h. subst (λ q. DeclaredAs c.nodes (R ++ at.roots) N q e') (sym h.0) (subst (DeclaredAs c.nodes (R ++ at.roots) N d) (sym h.1) alike)) (λ y o h. absurd h) entries)
      false (λ e'. absurd (no_yes e'))
