-- Functors of one parameter after the other.
use Rattle.std.proofs.Common.{◌≡◌, ◌∙◌, List, [], ◌∷◌, ◌++◌, refl, sym, ap, subst, true}
use Rattle.std.specs.declared.rc.Rc.{Rc}
use Rattle.std.specs.declared.alloc.Global.{Global}
use Rattle.env_table.specs.declared.entries.What.{What, out-What, out-roll-What}
use Rattle.env_table.specs.declared.entries.What.TheVariants.{Module, rolls-Module}
use Rattle.env_table.specs.declared.entries.Entry.{Entry}
use Rattle.env_table.specs.declared.entries.Components.{Components}
use Rattle.env_table.specs.declared.entries.Template.{Template, out-Template, roll-Template, out-roll-Template}
use Rattle.env_table.specs.declared.entries.Sig.{Sig, out-Sig, out-roll-Sig}
use Rattle.env_table.specs.declared.entries.Sig.TheOpen.{Sig-F, Template-F, What-F}
use Rattle.env_table.specs.declared.entries.Sig.TheVariants.{Functor, rolls-Functor, Structure, rolls-Structure}
use Rattle.module_steps.specs.declared.functors.Taken.{Taken}
use Rattle.type_reading.specs.Copying.{paths_of}
use Rattle.sig_template.specs.Ways.{sig_of}
use Rattle.sig_template.specs.Changed.{made_of}
use Rattle.module_steps.specs.Modules.{templates_of, IsFunctorOver, env_behind, is_structure, opened_structure, opened_is}

pub templates_append : (xs ys : List Taken) → templates_of (xs ++ ys) ≡ templates_of xs ++ templates_of ys
templates_append [] ys = refl
templates_append (x ∷ xs) ys = ap (λ ts. x.template.value ∷ ts) (templates_append xs ys)

-- a parameter more, inside of the others
pub over_more : (ps : List Template) (p body mid t : Template) → IsFunctorOver (p ∷ []) body mid → IsFunctorOver ps mid t → IsFunctorOver (ps ++ p ∷ []) body t
over_more [] p body mid t one is = subst (λ x. IsFunctorOver (p ∷ []) body x) (sym is) one
over_more (q ∷ ps) p body mid t one (made, (parameter, inner, sig, same, rest)) = (made, (parameter, inner, sig, same, over_more ps p body mid inner.value one rest))

pub behind_append : (xs : List Taken) (x : Taken) (env : List Entry) → env_behind (xs ++ x ∷ []) env ≡ x.env
behind_append [] x env = refl
behind_append (y ∷ xs) x env = behind_append xs x y.env

out_functor : (p b : Rc Template Global) → out-Sig (Functor p b) ≡ Sig-F.Functor p b
out_functor p b = sym (ap out-Sig (rolls-Functor p b)) ∙ out-roll-Sig (Sig-F.Functor p b)

-- what is seen of a template that is made
pub rolled : (t : Template) (f : Template-F Sig What Components Entry Template) → t ≡ roll-Template f → (sig_of t ≡ f.sig.value) × (made_of t ≡ paths_of f.made.items)
rolled t f e =
    let o : out-Template t ≡ f = ap out-Template e ∙ out-roll-Template f in
    (ap (λ (x : Template-F Sig What Components Entry Template). x.sig.value) o, ap (λ (x : Template-F Sig What Components Entry Template). paths_of x.made.items) o)

pub over_one : (t : Template) (f : Template-F Sig What Components Entry Template) (parameter inner : Rc Template Global) (p body : Template) → t ≡ roll-Template f → f.made.items ≡ [] → f.sig.value ≡ Functor parameter inner → parameter.value ≡ p → inner.value ≡ body
    → IsFunctorOver (p ∷ []) body t
over_one t f parameter inner p body e none sig pe be =
    let (s, m) = rolled t f e in
    (m ∙ ap paths_of none, (parameter, inner, ap out-Sig (s ∙ sig) ∙ out_functor parameter inner, pe, be))

-- what is known of the signature of a structure, and of the entry of a module
pub structure_is : (c : Components) → is_structure (Structure c) ≡ true
structure_is c = sym (ap is_structure (rolls-Structure c)) ∙ ap opened_structure (out-roll-Sig (Sig-F.Structure c))

out_module : (r : Rc Sig Global) → out-What (Module r) ≡ What-F.Module r
out_module r = sym (ap out-What (rolls-Module r)) ∙ out-roll-What (What-F.Module r)

pub module_is : (r : Rc Sig Global) (s : Sig) (w : What) → w ≡ Module r → r.value ≡ s → opened_is (out-What w) s
module_is r s w e same = subst (λ o. opened_is o s) (sym (ap out-What e ∙ out_module r)) same
