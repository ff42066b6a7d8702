-- What a group of declarations adds of which none is another type (OCaml manual, 11.8).
use Rattle.std.specs.Prelude.{◌≡◌, ℕ, ◌<◌, ◌^◌, List, [], ◌∷◌, ◌++◌, length, map, reverse, Some, option_map}
use Rattle.std.specs.declared.rc.Rc.{Rc}
use Rattle.std.specs.declared.alloc.Global.{Global}
use Rattle.tree_model.specs.Trees.{Tree}
use Rattle.env_table.specs.declared.entries.Declaration.{Declaration}
use Rattle.env_table.specs.declared.entries.Entry.{Entry}
use Rattle.typing_state.specs.declared.parts.Parts.{Parts}
use Rattle.typing_state.specs.Goes.{Goes, OnlyIndex}
use Rattle.operand_laws.specs.Operands.{number_of}
use Rattle.type_expressions.specs.Untyped.{Untyped}
use Rattle.decl_groups.specs.declared.groups.DeclarationPart.{DeclarationPart}
use Rattle.decl_groups.specs.Written.{declaration_view, declarations_in}
use Rattle.decl_typing.specs.declared.decls.Declared.{Declared}
use Rattle.decl_typing.specs.Owned.{AreOwnRights, DeclaresType}
use Rattle.decl_typing.specs.Entries.{values_of, AddsEntries, QuietlyEntered}

-- A declaration that is a type of its own is declared in the scope `inner`, and then its entries are added after others.
pub record DeclaresOwn (inner : List Entry) (a c : Parts) (p : DeclarationPart) (before after : List (Rc Entry Global)) : Type 0 where
  pub declaration : Declaration
  pub between : Parts
  pub declares : DeclaresType a between inner p declaration.root.0 (option_map (λ o. o.path.items) declaration.defines) declaration.shape
  pub arity : length p.parameters.items < 2 ^ 32 → declaration.arity ≡ length p.parameters.items
  pub origin : option_map (λ o. o.path.items) declaration.origin ≡ Some (number_of a.item p.number ∷ [])
  pub untyped : Untyped a between
  pub goes : Goes a between
  pub adds : AddsEntries declaration p before after
  pub rest : OnlyIndex between c
  pub types : Untyped between c
  pub notes : Goes between c

-- So are several, one after the other.
pub data DeclaresEach (inner : List Entry) : (a c : Parts) → List DeclarationPart → (before after : List (Rc Entry Global)) → Type 0 where
  none_declared : {a : Parts} {es : List (Rc Entry Global)} → DeclaresEach inner a a [] es es
  one_declared : {a b c : Parts} {p : DeclarationPart} {ps : List DeclarationPart} {es fs gs : List (Rc Entry Global)} → DeclaresOwn inner a b p es fs → DeclaresEach inner b c ps fs gs → DeclaresEach inner a c (p ∷ ps) es gs

-- They add their entries to the names before them, and each makes its path.
pub record AddsOwn (inner env : List Entry) (a c : Parts) (ps : List DeclarationPart) (d : Declared) : Type 0 where
  pub each : DeclaresEach inner a c ps [] d.entries.items
  pub behind : d.env ≡ reverse (values_of d.entries.items) ++ env
  pub makes : map (λ o. o.path.items) d.makes.items ≡ map (λ (p : DeclarationPart). number_of a.item p.number ∷ []) ps

-- A group of such declarations: their names are put in scope, and then each is declared in that scope.
pub record DeclaresGroup (env : List Entry) (a c : Parts) (ps : List DeclarationPart) (d : Declared) : Type 0 where
  pub begun : Parts
  pub inner : List Entry
  pub group : QuietlyEntered a begun ps env inner
  pub untyped : Untyped a begun
  pub goes : Goes a begun
  pub adds : AddsOwn inner env begun c ps d

-- An item of the row `type`: what is missing in it is recorded, and then its declarations are a group, if none of them is another type.
pub record DeclaresTypes (env : List Entry) (a c : Parts) (n : ℕ) (t : Tree) (d : Declared) : Type 0 where
  pub parts : List DeclarationPart
  pub written : map declaration_view parts ≡ declarations_in n t
  pub noted : Parts
  pub rest : OnlyIndex a noted
  pub untyped : Untyped a noted
  pub goes : Goes a noted
  pub declares : AreOwnRights parts → DeclaresGroup env noted c parts d
