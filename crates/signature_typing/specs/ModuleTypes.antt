-- Module types that aren't known, and clauses on them.
use Rattle.std.specs.Prelude.{◌≡◌, ℕ, true, List, [], ◌++◌, Option, Some, None, codes}
use Rattle.std.specs.Fmt.{decimal}
use Rattle.text_terms.specs.declared.Span.{Span}
use Rattle.type_terms.specs.declared.types.Origin.{Origin}
use Rattle.env_table.specs.declared.entries.Entry.{Entry}
use Rattle.env_table.specs.declared.entries.Template.{Template, out-Template}
use Rattle.env_table.specs.declared.faults.FaultKind.TheVariants as fault
use Rattle.typing_state.specs.declared.parts.Parts.{Parts}
use Rattle.sig_template.specs.Structures.{newest_alone, IsStructureOf}
use Rattle.sig_template.specs.Ways.{sig_of}
use Rattle.sig_template.specs.Changed.{made_of}
use Rattle.module_steps.specs.Modules.{is_hole, ToldUnless}

-- a module type of which nothing is known makes nothing
abbrev pub IsUnknownType : Template → Type 0
IsUnknownType t = (is_hole (sig_of t) ≡ true) × (made_of t ≡ [])

abbrev pub with_text : (name : List ℕ) → (arity : ℕ) → List ℕ
with_text name arity = codes "The signature has no abstract type " ++ name ++ codes " with " ++ decimal arity ++ codes " parameters"

-- what comes of a clause on a type: the template that it gives, or the one before, where exactly one fault tells it unless nothing is known of that
abbrev pub Given : Option Template → (template result : Template) → (old new : Parts) → Span → (name : List ℕ) → (arity : ℕ) → Type 0
Given (Some t) template result old new span name arity = (result ≡ t) × (new ≡ old)
Given None template result old new span name arity = (result ≡ template) × ToldUnless (is_hole (sig_of template)) old new span fault.With (with_text name arity)

-- a template is the structure of the newest of these components, in order, and makes these origins
abbrev pub IsTemplateOf : List Entry → List Origin → Template → Type 0
IsTemplateOf es os t = ((out-Template t).made.items ≡ os) × IsStructureOf (sig_of t) (newest_alone es)
