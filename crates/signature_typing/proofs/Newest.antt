-- The signature of values: of those of one name the newest alone, in the code and in the definitions.
use Rattle.std.proofs.Common.{◌≡◌, ◌∙◌, Bool, true, false, ◌&&◌, ◌||◌, List, [], ◌∷◌, map, Option, Some, None, if◌then◌else◌, refl, sym, ap, subst}
use Rattle.std.specs.Prelude.{ℕ}
use Rattle.std.specs.Option.{option_or}
use Rattle.std.specs.Str.{bytes_eq}
use Rattle.text_terms.specs.Bytes.{str_bytes}
use Rattle.type_model.specs.Types.{Typ}
use Rattle.type_model.specs.Schemes.{Scheme}
use Rattle.signature_model.specs.Declarations as rules
use Rattle.signature_model.specs.Declarations.{Name, Place}
use Rattle.signature_model.specs.Components.{newest, as_value}
use Rattle.signature_model.specs.Entries.{Environment, Referent, entry, a_value, a_constructor, an_exception, a_label, a_type, a_module, a_module_type, entries_in}
use Rattle.signature_model.specs.Signatures.{Structure, Components, Done, Component, Value, TypeName, Exception, Module, ModuleType}
use Rattle.typing_model.specs.Expressions.{is_some}
use Rattle.typing_model.specs.Items as model
use Rattle.env_table.specs.declared.entries.Constructor.{Constructor}
use Rattle.env_table.specs.declared.entries.Declaration.{Declaration}
use Rattle.env_table.specs.declared.entries.Entry.{Entry}
use Rattle.env_table.specs.declared.entries.What.{What, out-What}
use Rattle.env_table.specs.declared.entries.What.TheVariants as what
use Rattle.env_table.specs.declared.entries.Sig.{Sig}
use Rattle.env_table.specs.declared.entries.Sig.TheVariants as codesig
use Rattle.env_table.specs.declared.entries.Components as shown
use Rattle.typing_conditions.specs.Environments.{WhatAs, of_value, EntryAs, entry_as, EnvAs, no_names, newest as one_more, SigAs, of_structure}
use Rattle.sig_template.specs.Structures.{is_value, is_exception, value_opened, exception_opened, any_named, is_replaced, newest_alone}
use Rattle.type_expressions.proofs.Settling.{names_turned}
use Rattle.signature_typing.specs.ValueItems.{AllValues}

some_or : {A : Type 0} (o p : Option A) → is_some (option_or o p) ≡ (is_some o || is_some p)
some_or None p = refl
some_or (Some x) p = refl

some_if : {A : Type 0} (b : Bool) (x : A) → is_some (if b then Some x else None) ≡ b
some_if true x = refl
some_if false x = refl

or_turned : (a b : Bool) → (a || b) ≡ (b || a)
or_turned true true = refl
or_turned true false = refl
or_turned false true = refl
or_turned false false = refl

or_none : (a : Bool) → (a || false) ≡ a
or_none true = refl
or_none false = refl

module _ {S : ℕ → Scheme → Type 0} {D : Declaration → rules.Declaration → Type 0} {X : Constructor → Option Typ → Type 0} where
  -- an entry that stands for a value is one
  value_here : {w : What} {s : Scheme} → WhatAs S D X w (a_value s) → value_opened (out-What w) ≡ true
  value_here (of_value {n = n} e r) = ap (λ w. value_opened (out-What w)) e ∙ ap value_opened (what.outs-Scheme n)

  no_exception : {w : What} {s : Scheme} → WhatAs S D X w (a_value s) → exception_opened (out-What w) ≡ false
  no_exception (of_value {n = n} e r) = ap (λ w. exception_opened (out-What w)) e ∙ ap exception_opened (what.outs-Scheme n)

  what_of : {e : Entry} {n : Name} {at : rules.Place} {s : Scheme} → EntryAs S D X e (entry n at (a_value s)) → WhatAs S D X e.what (a_value s)
  what_of (entry_as name kind at w) = w

  name_of : {e : Entry} {n : Name} {at : rules.Place} {s : Scheme} → EntryAs S D X e (entry n at (a_value s)) → n ≡ str_bytes e.name
  name_of (entry_as name kind at w) = name

  -- whether there is a value of a name
  any_newest : (n : Name) {es : List Entry} (cs : Components) → AllValues cs → EnvAs S D X es (entries_in cs) → any_named is_value n es ≡ is_some (newest as_value n cs)
  any_newest n Done v no_names = refl
  any_newest n (Component m at (Value s) cs) v (one_more {e = e} {es = es} x xs) =
      ap (λ b. (b && bytes_eq (str_bytes e.name) n) || any_named is_value n es) (value_here (what_of x))
      ∙ ap (λ b. b || any_named is_value n es) (names_turned (str_bytes e.name) n)
      ∙ ap (λ y. bytes_eq n y || any_named is_value n es) (sym (name_of x))
      ∙ ap (λ b. bytes_eq n m || b) (any_newest n cs v xs)
      ∙ or_turned (bytes_eq n m) (is_some (newest as_value n cs))
      ∙ sym (some_or (newest as_value n cs) (if bytes_eq n m then Some s else None) ∙ ap (λ b. is_some (newest as_value n cs) || b) (some_if (bytes_eq n m) s))
  any_newest n (Component m at (TypeName d) cs) v h = absurd v
  any_newest n (Component m at (Exception o) cs) v h = absurd v
  any_newest n (Component m at (Module s) cs) v h = absurd v
  any_newest n (Component m at (ModuleType made s) cs) v h = absurd v

  -- whether a newer one replaces it
  replaced_older : {e : Entry} {es : List Entry} (m : Name) (at : rules.Place) (s : Scheme) (cs : Components) → AllValues cs → EntryAs S D X e (entry m at (a_value s)) → EnvAs S D X es (entries_in cs) → is_replaced e es ≡ model.is_older m (Value s) cs
  replaced_older {e} {es} m at s cs v x xs =
      ap (λ b. (b && any_named is_value (str_bytes e.name) es) || (is_exception e && any_named is_exception (str_bytes e.name) es)) (value_here (what_of x))
      ∙ ap (λ b. any_named is_value (str_bytes e.name) es || (b && any_named is_exception (str_bytes e.name) es)) (no_exception (what_of x))
      ∙ or_none (any_named is_value (str_bytes e.name) es)
      ∙ any_newest (str_bytes e.name) cs v xs
      ∙ ap (λ y. is_some (newest as_value y cs)) (sym (name_of x))

  -- So the newest of the code stand for the newest of the definitions.
  pub newest_as : {es : List Entry} (cs : Components) → AllValues cs → EnvAs S D X es (entries_in cs) → EnvAs S D X (newest_alone es) (entries_in (model.newest_alone cs))
  newest_as Done v no_names = no_names
  newest_as (Component m at (Value s) cs) v (one_more {e = e} {es = es} x xs) = by (is_replaced e es) (model.is_older m (Value s) cs) (replaced_older m at s cs v x xs) (newest_as cs v xs)
    where
      by : (b d : Bool) → b ≡ d → EnvAs S D X (newest_alone es) (entries_in (model.newest_alone cs)) → EnvAs S D X (if b then newest_alone es else e ∷ newest_alone es) (entries_in (if d then model.newest_alone cs else Component m at (Value s) (model.newest_alone cs)))
      by true true same ys = ys
      by false false same ys = one_more x ys
      by true false same ys = absurd (cc)
      by false true same ys = absurd (cc)
  newest_as (Component m at (TypeName d) cs) v h = absurd v
  newest_as (Component m at (Exception o) cs) v h = absurd v
  newest_as (Component m at (Module s) cs) v h = absurd v
  newest_as (Component m at (ModuleType made s) cs) v h = absurd v

  -- A structure of the code of these is the signature of the components.
  pub values_signature : {es : List Entry} (cs : Components) → AllValues cs → EnvAs S D X es (entries_in cs) → (s : Sig) (c : shown.Components) → s ≡ codesig.Structure c → map (λ r. r.value) (shown.out-Components c).entries.items ≡ newest_alone es → SigAs S D X s (Structure (model.newest_alone cs))
  values_signature cs v entries s c is there = of_structure is (subst (λ ys. EnvAs S D X ys (entries_in (model.newest_alone cs))) (sym there) (newest_as cs v entries))

-- the component of a value, in front of others
abbrev pub with_value : Name → Place → Referent → Components → Components
with_value n at (a_value s) cs = Component n at (Value s) cs
with_value n at (a_constructor d k) cs = cs
with_value n at (an_exception o) cs = cs
with_value n at (a_label d l) cs = cs
with_value n at (a_type d) cs = cs
with_value n at (a_module s) cs = cs
with_value n at (a_module_type t) cs = cs

-- the components of the values among entries, in order
abbrev pub values_by : Environment → Components
values_by [] = Done
values_by (e ∷ es) = with_value e.name e.place e.stands_for (values_by es)

-- So values are the components of their entries.
pub values_back : (cs : Components) → AllValues cs → values_by (entries_in cs) ≡ cs
values_back Done v = refl
values_back (Component n at (Value s) cs) v = ap (Component n at (Value s)) (values_back cs v)
values_back (Component n at (TypeName d) cs) v = absurd v
values_back (Component n at (Exception o) cs) v = absurd v
values_back (Component n at (Module s) cs) v = absurd v
values_back (Component n at (ModuleType made s) cs) v = absurd v
