-- What modules and module types ask goes together, and their signatures are one where it is kept alike.
use Rattle.std.proofs.Common.{◌≡◌, ℕ, ◌+◌, Bool, true, false, ◌&&◌, List, [], ◌∷◌, ◌++◌, length, Option, Some, None, refl, sym, ◌∙◌, ap, if◌then◌else◌}
use Rattle.token_model.specs.Kinds.{Tok}
use Rattle.tree_model.specs.Trees.{Place}
use Rattle.type_model.specs.Types.{Path}
use Rattle.signature_model.specs.Declarations.{in_text}
use Rattle.signature_model.specs.Signatures.{Signature, Hole, Structure, Functor, Module, ModuleType, Template, template, components_of}
use Rattle.signature_model.specs.Templates.{made_at, origins_at}
use Rattle.signature_model.specs.Functors.{applied}
use Rattle.signature_model.specs.Entries.{Environment, a_module, a_module_type, entry, scope_of}
use Rattle.typing_model.specs.Demands.{Site, site, Demand, test, no_functor, Condition, demand}
use Rattle.typing_model.specs.Contexts.{Context, under, ask, parameters, is_kept}
use Rattle.typing_model.specs.Parts.{Written, TypeExpression, ModuleExpression, WithClause, Parameter, Item, no_names, no_module_at, no_module_type_at, place_of}
use Rattle.typing_model.specs.Parts as parts
use Rattle.typing_model.specs.Declarations.{names_of_tokens}
use Rattle.typing_model.specs.Items.{variables_written, signature_of_items, made_by_items}
use Rattle.typing_model.specs.Modules.{signature_by, template_by, ask_module, ask_module_type, module_path, structure, sealed, body_of, is_functor, argument_signature, seal_asks, applied_signature, application, parameter_signature, with_module, with_parameter, parameters_ask, with_parameters, closed_unless, functor_signature, closings_ask, functor_expression, module_type_path, signature_text, module_type_in_parentheses, behind_clause, clause_asks, clauses_ask, behind_clauses, with_expression, functor_template, functor_type, ask_new, component_named, entry_named, module_item, module_type_item, module_specification, open_item, names_among, added_asked, include_item, include_specification, once_each, value_item}
use Rattle.typing_model.specs.Modules.{argument_makes as parts_made}
use Rattle.typing_laws.proofs.Together.{Kept, keeping, Together, at_end, at_demand, at_treated, Agreed, agree_first, agree_left, agree_right, alone, behind, if_alike, along}
use Rattle.typing_laws.proofs.Steady.{Each, no_one, one_and, IfThere, absent, there, SteadyType, SteadyModule, SteadyModuleType, SteadyClause, SteadyParameter, SteadyItem, as_itself}
use Rattle.typing_laws.proofs.SteadyItems.{items_alike, items_sign_alike, made_alike}

pub no_module_steady : {k m : Kept} (n : ℕ) (q : Place) → SteadyModule k m (no_module_at n q)
no_module_steady n q = record { asks = λ c. at_end; signs = λ c a. refl; makes = λ c a. refl }

pub no_module_type_steady : {k m : Kept} (n : ℕ) → SteadyModuleType k m (no_module_type_at n)
no_module_type_steady n = record { asks = λ c. at_end; templates = λ c a. refl }

-- paths
signature_one : {k m : Kept} (c : Context) (n : ℕ) (p : Written) → Agreed k m (ask_module (keeping k c) n p) → signature_by (keeping k c) n p ≡ signature_by (keeping m c) n p
signature_one {k} {m} c n p a = by p.last refl
  where
    by : (o : Option Tok) → p.last ≡ o → signature_by (keeping k c) n p ≡ signature_by (keeping m c) n p
    by None e = rw (e, signature_by) refl
    by (Some t) e = rw (e, agree_first _ _ _ _ (rw (e, ask_module) at a), signature_by) refl

template_one : {k m : Kept} (c : Context) (n : ℕ) (p : Written) → Agreed k m (ask_module_type (keeping k c) n p) → template_by (keeping k c) n p ≡ template_by (keeping m c) n p
template_one {k} {m} c n p a = by p.last refl
  where
    by : (o : Option Tok) → p.last ≡ o → template_by (keeping k c) n p ≡ template_by (keeping m c) n p
    by None e = rw (e, template_by) refl
    by (Some t) e = rw (e, agree_first _ _ _ _ (rw (e, ask_module_type) at a), template_by) refl

pub mpath_steady : {k m : Kept} (n : ℕ) (q : Place) (p : Written) → SteadyModule k m (module_path n q p)
mpath_steady n q p = record { asks = λ c. alone _; signs = λ c a. signature_one c n p a; makes = λ c a. refl }

pub mstruct_steady : {k m : Kept} (n : ℕ) (q : Place) (xs : List Item) → Each (SteadyItem k m) xs → SteadyModule k m (structure n q xs)
mstruct_steady n q xs each = record { asks = λ c. items_alike c no_names xs each; signs = λ c a. items_sign_alike c no_names xs each a; makes = λ c a. made_alike c no_names xs each a }

pub sealed_steady : {k m : Kept} (n : ℕ) (q : Place) (x : ModuleExpression) (y : Option parts.ModuleType) → SteadyModule k m x → IfThere (SteadyModuleType k m) y → SteadyModule k m (sealed n q x y)
sealed_steady n q x None s absent = record { asks = s.asks; signs = s.signs; makes = s.makes }
sealed_steady {k} {m} n q x (Some y) s (there z) = record {
  asks = λ c. behind (behind (s.asks c) (λ a. z.asks c)) (λ a. at_demand refl (λ b. at_end));
  signs = λ c a. ap (λ t. made_at t n) (z.templates c (agree_right (x.asks (keeping k c)) _ (agree_left _ _ a)));
  makes = λ c a.
      ap (λ os. os ++ origins_at (y.template (keeping k c)).made n) (s.makes c (agree_left _ _ (agree_left _ _ a))) ∙
      ap (λ t. x.makes (keeping m c) ++ origins_at t.made n) (z.templates c (agree_right (x.asks (keeping k c)) _ (agree_left _ _ a)));
}

-- applications
seal_alike : {k m : Kept} (c : Context) (n : ℕ) (x : ModuleExpression) (y : Option parts.ModuleType) → IfThere (SteadyModuleType k m) y → Together k m (seal_asks (keeping k c) n x y) (seal_asks (keeping m c) n x y)
seal_alike c n x None absent = at_end
seal_alike c n x (Some y) (there z) = behind (z.asks c) (λ a. at_demand refl (λ b. at_end))

argument_one : {k m : Kept} (c : Context) (n : ℕ) (x : ModuleExpression) (y : Option parts.ModuleType) → SteadyModule k m x → IfThere (SteadyModuleType k m) y → Agreed k m (x.asks (keeping k c)) → Agreed k m (seal_asks (keeping k c) n x y) →
    argument_signature (keeping k c) x y ≡ argument_signature (keeping m c) x y
argument_one c n x None s absent a b = s.signs c a
argument_one c n x (Some y) s (there z) a b = ap (λ t. made_at t y.node) (z.templates c (agree_left _ _ b))

argument_makes_one : {k m : Kept} (c : Context) (n : ℕ) (x : ModuleExpression) (y : Option parts.ModuleType) → SteadyModule k m x → IfThere (SteadyModuleType k m) y → Agreed k m (x.asks (keeping k c)) → Agreed k m (seal_asks (keeping k c) n x y) →
    parts_made (keeping k c) x y ≡ parts_made (keeping m c) x y
argument_makes_one c n x None s absent a b = s.makes c a
argument_makes_one {k} {m} c n x (Some y) s (there z) a b =
    ap (λ os. os ++ origins_at (y.template (keeping k c)).made y.node) (s.makes c a) ∙ ap (λ t. x.makes (keeping m c) ++ origins_at t.made y.node) (z.templates c (agree_left _ _ b))

both_kept : {k m : Kept} (s z : Site) (q : Place) (d : Demand) (x y : Bool) → x ≡ y → Agreed k m (if x then demand z q d ∷ [] else []) → (x && k z) ≡ (y && m z)
both_kept s z q d true true g a = agree_first _ _ _ _ a
both_kept s z q d false false g a = refl
both_kept s z q d true false g a = absurd (cc)
both_kept s z q d false true g a = absurd (cc)

abbrev applied_if : Bool → ℕ → Signature → Signature → Signature
applied_if b n Hole a = Hole
applied_if b n (Structure cs) a = Hole
applied_if b n (Functor pm p bm r) a = if b then applied n a (template pm p) (template bm r) else Hole

applied_by : (c : Context) (n : ℕ) (f a : Signature) → applied_signature c n f a ≡ applied_if (is_kept c n 0 && is_kept c n 2) n f a
applied_by c n Hole a = refl
applied_by c n (Structure cs) a = refl
applied_by c n (Functor pm p bm r) a = refl

three_alike : (b d : Bool) (n : ℕ) (f g a h : Signature) → b ≡ d → f ≡ g → a ≡ h → applied_if b n f a ≡ applied_if d n g h
three_alike b d n f g a h e i j = cc

makes_alike : (b d : Bool) (n : ℕ) (f g : Signature) (os ps qs rs : List Path) → b ≡ d → f ≡ g → os ≡ ps → qs ≡ rs →
    (os ++ qs ++ (if b then origins_at (body_of f).made n else [])) ≡ (ps ++ rs ++ (if d then origins_at (body_of g).made n else []))
makes_alike b d n f g os ps qs rs e i j l = cc

-- what is known behind an application whose demands are kept alike
pub record AppliedAlike (k m : Kept) (n : ℕ) (f x : ModuleExpression) (y : Option parts.ModuleType) (c : Context) : Type 0 where
  pub kept : (k (site n 0) && k (site n 2)) ≡ (m (site n 0) && m (site n 2))
  pub head : f.signature (keeping k c) ≡ f.signature (keeping m c)
  pub argument : argument_signature (keeping k c) x y ≡ argument_signature (keeping m c) x y
  pub head_makes : f.makes (keeping k c) ≡ f.makes (keeping m c)
  pub argument_makes : parts_made (keeping k c) x y ≡ parts_made (keeping m c) x y

abbrev head_asks : Context → ℕ → ModuleExpression → List Condition
head_asks c n f = f.asks c ++ ask n 0 f.at (test no_functor (is_functor (f.signature c)))

applied_alike : {k m : Kept} (n : ℕ) (q : Place) (f x : ModuleExpression) (y : Option parts.ModuleType) → SteadyModule k m f → SteadyModule k m x → IfThere (SteadyModuleType k m) y →
    (c : Context) → Agreed k m ((application n q f x y).asks (keeping k c)) → AppliedAlike k m n f x y c
applied_alike {k} {m} n q f x y s z w c a =
    let seal : List Condition = seal_asks (keeping k c) n x y in
    let all : Agreed k m ((head_asks (keeping k c) n f ++ x.asks (keeping k c)) ++ seal) = agree_left _ _ a in
    let args : Agreed k m (head_asks (keeping k c) n f ++ x.asks (keeping k c)) = agree_left _ _ all in
    let sealed : Agreed k m seal = agree_right (head_asks (keeping k c) n f ++ x.asks (keeping k c)) _ all in
    let part : Agreed k m (x.asks (keeping k c)) = agree_right (head_asks (keeping k c) n f) _ args in
    let top : Agreed k m (head_asks (keeping k c) n f) = agree_left _ _ args in
    let first : k (site n 0) ≡ m (site n 0) = agree_first _ _ _ _ (agree_right (f.asks (keeping k c)) _ top) in
    record {
      kept = both_kept (site n 0) (site n 2) _ _ (k (site n 0)) (m (site n 0)) first (agree_right ((head_asks (keeping k c) n f ++ x.asks (keeping k c)) ++ seal) _ a);
      head = s.signs c (agree_left _ _ top);
      argument = argument_one c n x y z w part sealed;
      head_makes = s.makes c (agree_left _ _ top);
      argument_makes = argument_makes_one c n x y z w part sealed;
    }

pub mapp_steady : {k m : Kept} (n : ℕ) (q : Place) (f x : ModuleExpression) (y : Option parts.ModuleType) → SteadyModule k m f → SteadyModule k m x → IfThere (SteadyModuleType k m) y → SteadyModule k m (application n q f x y)
mapp_steady {k} {m} n q f x y s z w = record {
  asks = λ c. behind (behind (behind (behind (s.asks c) (λ a. at_demand refl (λ b. at_end))) (λ a. z.asks c)) (λ a. seal_alike c n x y w))
      (λ a. if_alike (k (site n 0)) (m (site n 0)) (agree_first _ _ _ _ (agree_right (f.asks (keeping k c)) _ (agree_left _ _ (agree_left _ _ a)))) (at_demand refl (λ b. at_end)) at_end);
  signs = λ c a. let h = applied_alike n q f x y s z w c a in
      applied_by (keeping k c) n (f.signature (keeping k c)) (argument_signature (keeping k c) x y) ∙
      three_alike (k (site n 0) && k (site n 2)) (m (site n 0) && m (site n 2)) n (f.signature (keeping k c)) (f.signature (keeping m c)) (argument_signature (keeping k c) x y) (argument_signature (keeping m c) x y) h.kept h.head h.argument ∙
      sym (applied_by (keeping m c) n (f.signature (keeping m c)) (argument_signature (keeping m c) x y));
  makes = λ c a. let h = applied_alike n q f x y s z w c a in
      makes_alike (k (site n 0) && k (site n 2)) (m (site n 0) && m (site n 2)) n (f.signature (keeping k c)) (f.signature (keeping m c)) (f.makes (keeping k c)) (f.makes (keeping m c)) (parts_made (keeping k c) x y) (parts_made (keeping m c) x y)
      h.kept h.head h.head_makes h.argument_makes;
}

-- parameters
parameter_one : {k m : Kept} (c : Context) (p : Parameter) → SteadyParameter k m p → Agreed k m (p.module_type.asks (keeping k c)) → parameter_signature (keeping k c) p ≡ parameter_signature (keeping m c) p
parameter_one c p s a = ap (λ t. made_at t p.module_type.node) (s.module_type.templates c a)

-- behind parameters whose demands are kept alike, what goes together in each context does so
in_parameters : {k m : Kept} (f : Context → List Condition) (ps : List Parameter) → ((c : Context) → Together k m (f (keeping k c)) (f (keeping m c))) → Each (SteadyParameter k m) ps →
    (c : Context) → Agreed k m (parameters_ask (keeping k c) ps) → Together k m (f (with_parameters (keeping k c) ps)) (f (with_parameters (keeping m c) ps))
in_parameters f [] h no_one c a = h c
in_parameters {k} {m} f (p ∷ ps) h (one_and s each) c a =
    let own : Agreed k m (p.module_type.asks (keeping k c)) = agree_left _ _ a in
    along (λ z. f (with_parameters (with_module (keeping k c) p.name z) ps)) (λ z. f (with_parameters (with_module (keeping m c) p.name z) ps)) (parameter_one c p s own)
    (by p.name (in_parameters f ps h each) (agree_right (p.module_type.asks (keeping k c)) _ a))
  where
    z : Signature
    z = parameter_signature (keeping k c) p

    by : (x : Option Tok) → ((d : Context) → Agreed k m (parameters_ask (keeping k d) ps) → Together k m (f (with_parameters (keeping k d) ps)) (f (with_parameters (keeping m d) ps))) →
        Agreed k m (parameters_ask (with_module (keeping k c) x z) ps) → Together k m (f (with_parameters (with_module (keeping k c) x z) ps)) (f (with_parameters (with_module (keeping m c) x z) ps))
    by None further b = further c b
    by (Some t) further b = further (under (entry t.name (in_text (place_of t)) (a_module z) ∷ c.env) c) b

parameters_alike : {k m : Kept} (ps : List Parameter) → Each (SteadyParameter k m) ps → (c : Context) → Together k m (parameters_ask (keeping k c) ps) (parameters_ask (keeping m c) ps)
parameters_alike [] no_one c = at_end
parameters_alike {k} {m} (p ∷ ps) (one_and s each) c =
    behind (s.module_type.asks c) (λ a. along (λ z. parameters_ask (with_module (keeping k c) p.name z) ps) (λ z. parameters_ask (with_module (keeping m c) p.name z) ps) (parameter_one c p s a) (by p.name (parameters_alike ps each)))
  where
    z : Signature
    z = parameter_signature (keeping k c) p

    by : (x : Option Tok) → ((d : Context) → Together k m (parameters_ask (keeping k d) ps) (parameters_ask (keeping m d) ps)) → Together k m (parameters_ask (with_module (keeping k c) x z) ps) (parameters_ask (with_module (keeping m c) x z) ps)
    by None further = further c
    by (Some t) further = further (under (entry t.name (in_text (place_of t)) (a_module z) ∷ c.env) c)

closings_alike : {k m : Kept} (n : ℕ) (q : Place) (ps : List Parameter) (x : ModuleExpression) (c d : Context) → Together k m (closings_ask c n q ps x) (closings_ask d n q ps x)
closings_alike n q [] x c d = at_end
closings_alike n q (p ∷ ps) x c d = behind (closings_alike n q ps x (with_parameter c p) (with_parameter d p)) (λ a. at_demand refl (λ b. at_end))

-- functors
abbrev inner_makes : List Parameter → ModuleExpression → Context → List Path
inner_makes ps x c = elim ps [ [] ↦ x.makes c | q ∷ qs ↦ [] ]

inner_makes_one : {k m : Kept} (ps : List Parameter) (x : ModuleExpression) (c : Context) → SteadyModule k m x → Agreed k m (x.asks (with_parameters (keeping k c) ps)) → inner_makes ps x (keeping k c) ≡ inner_makes ps x (keeping m c)
inner_makes_one [] x c s a = s.makes c a
inner_makes_one (p ∷ ps) x c s a = refl

abbrev functor_of : Template → ℕ → Bool → ℕ → List Parameter → ModuleExpression → Context → Signature
functor_of t node b n ps x inner = Functor (origins_at t.made node) (made_at t node) (inner_makes ps x inner) (closed_unless b inner.env (functor_signature inner n ps x))

functor_alike : (t : Template) (node : ℕ) (b d : Bool) (E : Environment) (os us : List Path) (f g : Signature) → b ≡ d → os ≡ us → f ≡ g →
    ◌≡◌ {A = Signature} (Functor (origins_at t.made node) (made_at t node) os (closed_unless b E f)) (Functor (origins_at t.made node) (made_at t node) us (closed_unless d E g))
functor_alike t node b d E os us f g e i j = cc

functor_one : {k m : Kept} (n : ℕ) (q : Place) (ps : List Parameter) (x : ModuleExpression) → Each (SteadyParameter k m) ps → SteadyModule k m x → (c : Context) → Agreed k m (parameters_ask (keeping k c) ps) →
    Agreed k m (x.asks (with_parameters (keeping k c) ps)) → Agreed k m (closings_ask (keeping k c) n q ps x) → functor_signature (keeping k c) n ps x ≡ functor_signature (keeping m c) n ps x
functor_one n q [] x no_one s c a b d = s.signs c b
functor_one {k} {m} n q (p ∷ ps) x (one_and h each) s c a b d =
    let own : Agreed k m (p.module_type.asks (keeping k c)) = agree_left _ _ a in
    by p.name (functor_one n q ps x each s) (agree_right (p.module_type.asks (keeping k c)) _ a) b (agree_left _ _ d) (agree_first _ _ _ _ (agree_right (closings_ask (with_parameter (keeping k c) p) n q ps x) _ d)) ∙
    ap (λ t. functor_of t p.module_type.node (m (site n (length ps + 2))) n ps x (with_module (keeping m c) p.name (made_at t p.module_type.node))) (h.module_type.templates c own)
  where
    t : Template
    t = p.module_type.template (keeping k c)

    z : Signature
    z = parameter_signature (keeping k c) p

    at_inner : (e : Context) → ((d : Context) → Agreed k m (parameters_ask (keeping k d) ps) → Agreed k m (x.asks (with_parameters (keeping k d) ps)) → Agreed k m (closings_ask (keeping k d) n q ps x) →
        functor_signature (keeping k d) n ps x ≡ functor_signature (keeping m d) n ps x) → Agreed k m (parameters_ask (keeping k e) ps) → Agreed k m (x.asks (with_parameters (keeping k e) ps)) →
        Agreed k m (closings_ask (keeping k e) n q ps x) → k (site n (length ps + 2)) ≡ m (site n (length ps + 2)) →
        functor_of t p.module_type.node (k (site n (length ps + 2))) n ps x (keeping k e) ≡ functor_of t p.module_type.node (m (site n (length ps + 2))) n ps x (keeping m e)
    at_inner e further a b d i =
        functor_alike t p.module_type.node (k (site n (length ps + 2))) (m (site n (length ps + 2))) e.env (inner_makes ps x (keeping k e)) (inner_makes ps x (keeping m e))
        (functor_signature (keeping k e) n ps x) (functor_signature (keeping m e) n ps x) i (inner_makes_one ps x e s b) (further e a b d)

    by : (y : Option Tok) → ((d : Context) → Agreed k m (parameters_ask (keeping k d) ps) → Agreed k m (x.asks (with_parameters (keeping k d) ps)) → Agreed k m (closings_ask (keeping k d) n q ps x) →
        functor_signature (keeping k d) n ps x ≡ functor_signature (keeping m d) n ps x) → Agreed k m (parameters_ask (with_module (keeping k c) y z) ps) → Agreed k m (x.asks (with_parameters (with_module (keeping k c) y z) ps)) →
        Agreed k m (closings_ask (with_module (keeping k c) y z) n q ps x) → k (site n (length ps + 2)) ≡ m (site n (length ps + 2)) →
        functor_of t p.module_type.node (k (site n (length ps + 2))) n ps x (with_module (keeping k c) y z) ≡ functor_of t p.module_type.node (m (site n (length ps + 2))) n ps x (with_module (keeping m c) y z)
    by None further a b d i = at_inner c further a b d i
    by (Some u) further a b d i = at_inner (under (entry u.name (in_text (place_of u)) (a_module z) ∷ c.env) c) further a b d i

pub mfunctor_steady : {k m : Kept} (n : ℕ) (q : Place) (ps : List Parameter) (x : ModuleExpression) → Each (SteadyParameter k m) ps → SteadyModule k m x → SteadyModule k m (functor_expression n q ps x)
mfunctor_steady {k} {m} n q ps x each s = record {
  asks = λ c. behind (behind (parameters_alike ps each c) (λ a. in_parameters x.asks ps s.asks each c a)) (λ a. closings_alike n x.at ps x (keeping k c) (keeping m c));
  signs = λ c a. functor_one n x.at ps x each s c (agree_left _ _ (agree_left _ _ a)) (agree_right (parameters_ask (keeping k c) ps) _ (agree_left _ _ a))
      (agree_right (parameters_ask (keeping k c) ps ++ x.asks (with_parameters (keeping k c) ps)) _ a);
  makes = λ c a. inner_makes_one ps x c s (agree_right (parameters_ask (keeping k c) ps) _ (agree_left _ _ a));
}

-- module types
pub ypath_steady : {k m : Kept} (n : ℕ) (p : Written) → SteadyModuleType k m (module_type_path n p)
ypath_steady n p = record { asks = λ c. alone _; templates = λ c a. template_one c n p a }

templates_alike : (os us : List Path) (f g : Signature) → os ≡ us → f ≡ g → template os f ≡ template us g
templates_alike os us f g e i = cc

pub ysig_steady : {k m : Kept} (n : ℕ) (xs : List Item) → Each (SteadyItem k m) xs → SteadyModuleType k m (signature_text n xs)
ysig_steady {k} {m} n xs each = record {
  asks = λ c. items_alike c no_names xs each;
  templates = λ c a. templates_alike (made_by_items (keeping k c) xs) (made_by_items (keeping m c) xs) (signature_of_items (keeping k c) xs) (signature_of_items (keeping m c) xs) (made_alike c no_names xs each a) (items_sign_alike c no_names xs each a);
}

pub yparen_steady : {k m : Kept} (n : ℕ) (y : parts.ModuleType) → SteadyModuleType k m y → SteadyModuleType k m (module_type_in_parentheses n y)
yparen_steady n y s = record { asks = s.asks; templates = s.templates }

clause_alike : {k m : Kept} (c : Context) (t : Template) (w : WithClause) → SteadyClause k m w → Together k m (clause_asks (keeping k c) t w) (clause_asks (keeping m c) t w)
clause_alike {k} {m} c t w s = by w.head.name refl
  where
    by : (o : Option Tok) → w.head.name ≡ o → Together k m (clause_asks (keeping k c) t w) (clause_asks (keeping m c) t w)
    by None e = rw (e, clause_asks) (at_treated (s.body.reads (record c { variables = parameters (names_of_tokens w.head.parameters) }) c.env c.env (as_itself c.env)))
    by (Some x) e = rw (e, clause_asks) (at_treated (at_demand refl (λ a. s.body.reads (record c { variables = parameters (names_of_tokens w.head.parameters) }) c.env c.env (as_itself c.env))))

clauses_alike : {k m : Kept} (c : Context) (t : Template) (ws : List WithClause) → Each (SteadyClause k m) ws → Together k m (clauses_ask (keeping k c) t ws) (clauses_ask (keeping m c) t ws)
clauses_alike c t [] no_one = at_end
clauses_alike {k} c t (w ∷ ws) (one_and s each) = behind (clause_alike c t w s) (λ a. clauses_alike c (elim (behind_clause (keeping k c) t w) [ None ↦ t | Some u ↦ u ]) ws each)

pub ywith_steady : {k m : Kept} (n : ℕ) (y : parts.ModuleType) (ws : List WithClause) → SteadyModuleType k m y → Each (SteadyClause k m) ws → SteadyModuleType k m (with_expression n y ws)
ywith_steady {k} {m} n y ws s each = record {
  asks = λ c. behind (s.asks c) (λ a. along (λ t. clauses_ask (keeping k c) t ws) (λ t. clauses_ask (keeping m c) t ws) (s.templates c a) (clauses_alike c (y.template (keeping k c)) ws each));
  templates = λ c a. ap (λ t. behind_clauses (keeping k c) t ws) (s.templates c (agree_left _ _ a));
}

-- functor types
abbrev type_of_functor : Template → ℕ → Template → Template
type_of_functor t node body = template [] (Functor (origins_at t.made node) (made_at t node) body.made body.signature)

template_of_functor : {k m : Kept} (ps : List Parameter) (y : parts.ModuleType) → Each (SteadyParameter k m) ps → SteadyModuleType k m y → (c : Context) → Agreed k m (parameters_ask (keeping k c) ps) →
    Agreed k m (y.asks (with_parameters (keeping k c) ps)) → functor_template (keeping k c) ps y ≡ functor_template (keeping m c) ps y
template_of_functor [] y no_one s c a b = s.templates c b
template_of_functor {k} {m} (p ∷ ps) y (one_and h each) s c a b =
    let own : Agreed k m (p.module_type.asks (keeping k c)) = agree_left _ _ a in
    ap (type_of_functor (p.module_type.template (keeping k c)) p.module_type.node) (by p.name (template_of_functor ps y each s) (agree_right (p.module_type.asks (keeping k c)) _ a) b) ∙
    ap (λ t. type_of_functor t p.module_type.node (functor_template (with_module (keeping m c) p.name (made_at t p.module_type.node)) ps y)) (h.module_type.templates c own)
  where
    z : Signature
    z = parameter_signature (keeping k c) p

    by : (x : Option Tok) → ((d : Context) → Agreed k m (parameters_ask (keeping k d) ps) → Agreed k m (y.asks (with_parameters (keeping k d) ps)) → functor_template (keeping k d) ps y ≡ functor_template (keeping m d) ps y) →
        Agreed k m (parameters_ask (with_module (keeping k c) x z) ps) → Agreed k m (y.asks (with_parameters (with_module (keeping k c) x z) ps)) →
        functor_template (with_module (keeping k c) x z) ps y ≡ functor_template (with_module (keeping m c) x z) ps y
    by None further a b = further c a b
    by (Some u) further a b = further (under (entry u.name (in_text (place_of u)) (a_module z) ∷ c.env) c) a b

pub yfunctor_steady : {k m : Kept} (n : ℕ) (ps : List Parameter) (y : parts.ModuleType) → Each (SteadyParameter k m) ps → SteadyModuleType k m y → SteadyModuleType k m (functor_type n ps y)
yfunctor_steady {k} {m} n ps y each s = record {
  asks = λ c. behind (parameters_alike ps each c) (λ a. in_parameters y.asks ps s.asks each c a);
  templates = λ c a. template_of_functor ps y each s c (agree_left _ _ a) (agree_right (parameters_ask (keeping k c) ps) _ a);
}

-- items of modules
pub module_item_steady : {k m : Kept} (n : ℕ) (x : Option Tok) (y : ModuleExpression) → SteadyModule k m y → SteadyItem k m (module_item n x y)
module_item_steady n x y s = record {
  asks = λ c seen. behind (alone (ask_new n seen.modules x)) (λ a. s.asks c);
  adds = λ c seen a. ap (λ z. entry_named x (a_module z)) (s.signs c (agree_right (ask_new n seen.modules x) _ a));
  components = λ c seen a. ap (λ z. component_named x (Module z)) (s.signs c (agree_right (ask_new n seen.modules x) _ a));
  named = λ c seen a. refl;
  makes = λ c seen a. s.makes c (agree_right (ask_new n seen.modules x) _ a);
}

pub module_type_item_steady : {k m : Kept} (n : ℕ) (x : Option Tok) (y : parts.ModuleType) → SteadyModuleType k m y → SteadyItem k m (module_type_item n x y)
module_type_item_steady n x y s = record {
  asks = λ c seen. behind (alone (ask_new n seen.module_types x)) (λ a. s.asks c);
  adds = λ c seen a. ap (λ t. entry_named x (a_module_type t)) (s.templates c (agree_right (ask_new n seen.module_types x) _ a));
  components = λ c seen a. ap (λ t. component_named x (ModuleType t.made t.signature)) (s.templates c (agree_right (ask_new n seen.module_types x) _ a));
  named = λ c seen a. refl;
  makes = λ c seen a. refl;
}

abbrev specified : ℕ → Context → List Parameter → parts.ModuleType → Signature
specified n c ps y = elim ps [ [] ↦ made_at (y.template c) n | p ∷ qs ↦ (functor_template c (p ∷ qs) y).signature ]

specified_one : {k m : Kept} (n : ℕ) (ps : List Parameter) (y : parts.ModuleType) → Each (SteadyParameter k m) ps → SteadyModuleType k m y → (c : Context) → Agreed k m (parameters_ask (keeping k c) ps) →
    Agreed k m (y.asks (with_parameters (keeping k c) ps)) → specified n (keeping k c) ps y ≡ specified n (keeping m c) ps y
specified_one n [] y no_one s c a b = ap (λ t. made_at t n) (s.templates c b)
specified_one n (p ∷ ps) y each s c a b = ap (λ t. t.signature) (template_of_functor (p ∷ ps) y each s c a b)

specified_makes : {k m : Kept} (n : ℕ) (ps : List Parameter) (y : parts.ModuleType) → SteadyModuleType k m y → (c : Context) → Agreed k m (y.asks (with_parameters (keeping k c) ps)) →
    ◌≡◌ {A = List Path} (elim ps [ [] ↦ origins_at (y.template (keeping k c)).made n | p ∷ qs ↦ [] ]) (elim ps [ [] ↦ origins_at (y.template (keeping m c)).made n | p ∷ qs ↦ [] ])
specified_makes n [] y s c a = ap (λ t. origins_at t.made n) (s.templates c a)
specified_makes n (p ∷ ps) y s c a = refl

pub gmodule_steady : {k m : Kept} (n : ℕ) (x : Option Tok) (ps : List Parameter) (y : parts.ModuleType) → Each (SteadyParameter k m) ps → SteadyModuleType k m y → SteadyItem k m (module_specification n x ps y)
gmodule_steady {k} {m} n x ps y each s = record {
  asks = λ c seen. behind (behind (alone (ask_new n seen.modules x)) (λ a. parameters_alike ps each c)) (λ a. in_parameters y.asks ps s.asks each c (agree_right (ask_new n seen.modules x) _ a));
  adds = λ c seen a. ap (λ z. entry_named x (a_module z)) (one c (ask_new n seen.modules x) a);
  components = λ c seen a. ap (λ z. component_named x (Module z)) (one c (ask_new n seen.modules x) a);
  named = λ c seen a. refl;
  makes = λ c seen a. specified_makes n ps y s c (agree_right (ask_new n seen.modules x ++ parameters_ask (keeping k c) ps) _ a);
}
  where
    one : (c : Context) (front : List Condition) → Agreed k m ((front ++ parameters_ask (keeping k c) ps) ++ y.asks (with_parameters (keeping k c) ps)) → specified n (keeping k c) ps y ≡ specified n (keeping m c) ps y
    one c front a = specified_one n ps y each s c (agree_right front (parameters_ask (keeping k c) ps) (agree_left (front ++ parameters_ask (keeping k c) ps) (y.asks (with_parameters (keeping k c) ps)) a))
        (agree_right (front ++ parameters_ask (keeping k c) ps) (y.asks (with_parameters (keeping k c) ps)) a)

pub open_item_steady : {k m : Kept} (n : ℕ) (p : Written) → SteadyItem k m (open_item n p)
open_item_steady n p = record { asks = λ c seen. alone _; adds = λ c seen a. ap scope_of (signature_one c n p a); components = λ c seen a. refl; named = λ c seen a. refl; makes = λ c seen a. refl }

pub include_item_steady : {k m : Kept} (n : ℕ) (q : Place) (p : Written) → SteadyItem k m (include_item n q p)
include_item_steady {k} {m} n q p = record {
  asks = λ c seen. behind (alone (ask_module (keeping k c) n p)) (λ a. along (λ z. added_asked n 1 q seen (components_of z)) (λ z. added_asked n 1 q seen (components_of z)) (signature_one c n p a) (alone _));
  adds = λ c seen a. ap scope_of (signature_one c n p (agree_left _ _ a));
  components = λ c seen a. ap components_of (signature_one c n p (agree_left _ _ a));
  named = λ c seen a. ap (λ z. names_among (components_of z)) (signature_one c n p (agree_left _ _ a));
  makes = λ c seen a. refl;
}

pub include_specification_steady : {k m : Kept} (n : ℕ) (q : Place) (p : Written) → SteadyItem k m (include_specification n q p)
include_specification_steady {k} {m} n q p = record {
  asks = λ c seen. behind (alone (ask_module_type (keeping k c) n p)) (λ a.
      along (λ t. added_asked n 1 q seen (components_of t.signature)) (λ t. added_asked n 1 q seen (components_of t.signature)) (template_one c n p a) (alone _));
  adds = λ c seen a. ap (λ t. scope_of t.signature) (template_one c n p (agree_left _ _ a));
  components = λ c seen a. ap (λ t. components_of t.signature) (template_one c n p (agree_left _ _ a));
  named = λ c seen a. ap (λ t. names_among (components_of t.signature)) (template_one c n p (agree_left _ _ a));
  makes = λ c seen a. ap (λ t. t.made) (template_one c n p (agree_left _ _ a));
}

pub value_item_steady : {k m : Kept} (n : ℕ) (ts : List Tok) (x : Option Tok) (t : TypeExpression) → SteadyType k m t → SteadyItem k m (value_item n ts x t)
value_item_steady n ts x t s = record {
  asks = λ c seen. s.reads (record c { variables = parameters (once_each [] (variables_written ts)) }) c.env c.env (as_itself c.env);
  adds = λ c seen a. refl;
  components = λ c seen a. refl;
  named = λ c seen a. refl;
  makes = λ c seen a. refl;
}
