-- What a component or a signature is, by its variant.
use Rattle.std.proofs.Common.{◌≡◌, ℕ, List, map, refl, ap, ◌∙◌, Some, None}
use Rattle.std.specs.declared.rc.Rc.{Rc}
use Rattle.std.specs.declared.alloc.Global.{Global}
use Rattle.type_terms.specs.declared.types.NodeRef.{NodeRef}
use Rattle.type_nodes.specs.Nodes.{Node}
use Rattle.env_table.specs.declared.entries.Components.{Components, out-Components}
use Rattle.env_table.specs.declared.entries.Constructor.{Constructor}
use Rattle.env_table.specs.declared.entries.Declaration.{Declaration}
use Rattle.env_table.specs.declared.entries.Template.{Template}
use Rattle.env_table.specs.declared.entries.Entry.{Entry}
use Rattle.env_table.specs.declared.entries.Sig.{Sig}
use Rattle.env_table.specs.declared.entries.Sig.TheVariants as sig
use Rattle.env_table.specs.declared.entries.What.{What, out-What}
use Rattle.env_table.specs.declared.entries.What.TheVariants as what
use Rattle.signature_match.specs.Newest.{value_by, type_by, exception_by, module_by, module_type_by}
use Rattle.signature_match.specs.Telling.{TellsOne, other, form_by, form_of, a_hole, a_functor, a_structure}

pub is_value : (w : What) (n : NodeRef) → w ≡ what.Scheme n → value_by (out-What w) ≡ Some n
is_value w n e = ap (λ x. value_by (out-What x)) e ∙ ap value_by (what.outs-Scheme n)

pub is_type : (w : What) (d : Rc Declaration Global) → w ≡ what.Type d → type_by (out-What w) ≡ Some d.value
is_type w d e = ap (λ x. type_by (out-What x)) e ∙ ap type_by (what.outs-Type d)

pub is_exception : (w : What) (c : Rc Constructor Global) → w ≡ what.Exception c → exception_by (out-What w) ≡ Some c.value
is_exception w c e = ap (λ x. exception_by (out-What x)) e ∙ ap exception_by (what.outs-Exception c)

pub is_module : (w : What) (s : Rc Sig Global) → w ≡ what.Module s → module_by (out-What w) ≡ Some s.value
is_module w s e = ap (λ x. module_by (out-What x)) e ∙ ap module_by (what.outs-Module s)

pub is_module_type : (w : What) (t : Rc Template Global) → w ≡ what.ModuleType t → module_type_by (out-What w) ≡ Some t.value
is_module_type w t e = ap (λ x. module_type_by (out-What x)) e ∙ ap module_type_by (what.outs-ModuleType t)

-- constructors and labels are asked with their type
pub is_constructor : (round : ℕ) (nodes : List Node) (A : Sig) (e : Entry) (d : Rc Declaration Global) (k : ℕ) → e.what ≡ what.Constructor d k → TellsOne round nodes nodes A e None
is_constructor round nodes A e d k is =
    let opens = ap out-What is ∙ what.outs-Constructor d k in
    other refl (ap value_by opens) (ap type_by opens) (ap exception_by opens) (ap module_by opens) (ap module_type_by opens)

pub is_label : (round : ℕ) (nodes : List Node) (A : Sig) (e : Entry) (d : Rc Declaration Global) (k : ℕ) → e.what ≡ what.Label d k → TellsOne round nodes nodes A e None
is_label round nodes A e d k is =
    let opens = ap out-What is ∙ what.outs-Label d k in
    other refl (ap value_by opens) (ap type_by opens) (ap exception_by opens) (ap module_by opens) (ap module_type_by opens)

pub is_hole : (s : Sig) → s ≡ sig.Hole → form_of s ≡ a_hole
is_hole s e = ap form_of e ∙ ap form_by sig.outs-Hole

pub is_structure : (s : Sig) (cs : Components) → s ≡ sig.Structure cs → form_of s ≡ a_structure (map (λ r. r.value) (out-Components cs).entries.items)
is_structure s cs e = ap form_of e ∙ ap form_by (sig.outs-Structure cs)

pub is_functor : (s : Sig) (p b : Rc Template Global) → s ≡ sig.Functor p b → form_of s ≡ a_functor p.value b.value
is_functor s p b e = ap form_of e ∙ ap form_by (sig.outs-Functor p b)
