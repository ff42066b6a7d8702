-- Labels by their names: the code and the definitions find the same one, and labels that were written before are the same.
use Rattle.std.proofs.Common.{◌≡◌, ◌∙◌, ℕ, Bool, true, false, List, Option, Some, None, option_map, refl, sym, ap, subst, if◌then◌else◌}
use Rattle.std.specs.Str.{bytes_eq}
use Rattle.std.proofs.lemmas.Slice.Eq.{bytes_eq-Decides}
use Rattle.text_terms.specs.Bytes.{str_bytes}
use Rattle.token_model.specs.Kinds.{Tok}
use Rattle.type_model.specs.Types.{Typ}
use Rattle.signature_model.specs.Declarations as rules
use Rattle.signature_model.specs.Declarations.{Name}
use Rattle.signature_model.specs.Components.{same_name}
use Rattle.typing_model.specs.Records.{find_label, labels_in}
use Rattle.type_nodes.specs.Nodes.{Node}
use Rattle.type_nodes.specs.Readings.{Types}
use Rattle.env_table.specs.declared.entries.Label.{Label}
use Rattle.env_table.specs.declared.entries.Shape.{Shape}
use Rattle.typing_conditions.specs.Declared.{LabelAs, OneByOne, no_more, one_more, ShapeAs, tell_nothing, tell_constructors, tell_labels}
use Rattle.record_steps.specs.Alike.{SameLabel, SameRecord}
use Rattle.record_steps.specs.Named.{labels_here, label_here}
use Rattle.record_steps.specs.Recording.{field_in}
use Rattle.typing_model.specs.Parts as parts
use Rattle.typing_model.specs.Names.{then_by}

-- whether two names are one doesn't depend on which of them comes first
pub names_turned : (x y : List ℕ) → bytes_eq x y ≡ bytes_eq y x
names_turned x y = by (bytes_eq x y) (bytes_eq y x) (bytes_eq-Decides x y).0 (bytes_eq-Decides x y).1 (bytes_eq-Decides y x).0 (bytes_eq-Decides y x).1
  where
    by : (b c : Bool) → (b ≡ true → x ≡ y) → (x ≡ y → b ≡ true) → (c ≡ true → y ≡ x) → (y ≡ x → c ≡ true) → b ≡ c
    by true true p q r s = refl
    by false false p q r s = refl
    by true false p q r s = sym (s (sym (p refl)))
    by false true p q r s = q (sym (r refl))

-- what the definitions find for the label of a name, or for none
abbrev FoundLabel : (Label → rules.Label → Type 0) → Option Label → Option rules.Label → Type 0
FoundLabel P None y = y ≡ None
FoundLabel P (Some l) y = (k : rules.Label) × (y ≡ Some k) × P l k

module _ {nodes : List Node} {C : List ℕ} {N : Types} {arity : ℕ} {owner : Typ} where
  -- they find the label that it stands for
  found_label : (x : Name) {ls : List Label} {ks : List rules.Label} → OneByOne (LabelAs nodes C N arity owner) ls ks → FoundLabel (LabelAs nodes C N arity owner) (label_here x ls) (find_label x ks)
  found_label x no_more = refl
  found_label x (one_more {x = l} {y = k} {xs = ls} {ys = ks} p ps) =
      by (bytes_eq (str_bytes l.name) x) (same_name x k.name) (ap (λ n. bytes_eq n x) (sym p.name) ∙ names_turned k.name x) (found_label x ps)
    where
      by : (b c : Bool) → b ≡ c → FoundLabel (LabelAs nodes C N arity owner) (label_here x ls) (find_label x ks) → FoundLabel (LabelAs nodes C N arity owner) (if b then Some l else label_here x ls) (if c then Some k else find_label x ks)
      by true true e h = (k, refl, p)
      by true false e h = absurd (cc)
      by false true e h = absurd (cc)
      by false false e h = h

  pub shape_label : (x : Name) {s : Shape} {z : rules.Shape} → ShapeAs nodes C N arity owner s z → FoundLabel (LabelAs nodes C N arity owner) (label_here x (labels_here s)) (find_label x (labels_in z))
  shape_label x (tell_nothing e) = subst (λ s. FoundLabel (LabelAs nodes C N arity owner) (label_here x (labels_here s)) None) (sym e) refl
  shape_label x (tell_constructors e h) = subst (λ s. FoundLabel (LabelAs nodes C N arity owner) (label_here x (labels_here s)) None) (sym e) refl
  shape_label x (tell_labels {ks = ks} e h) = subst (λ s. FoundLabel (LabelAs nodes C N arity owner) (label_here x (labels_here s)) (find_label x ks)) (sym e) (found_label x h)

  -- a label is among those of the declaration
  pub shape_none : (x : Name) {s : Shape} {z : rules.Shape} → ShapeAs nodes C N arity owner s z → label_here x (labels_here s) ≡ None → find_label x (labels_in z) ≡ None
  shape_none x {s} {z} h none = subst (λ o. FoundLabel (LabelAs nodes C N arity owner) o (find_label x (labels_in z))) none (shape_label x h)

  pub shape_some : (x : Name) (l : Label) {s : Shape} {z : rules.Shape} → ShapeAs nodes C N arity owner s z → label_here x (labels_here s) ≡ Some l → (k : rules.Label) × (find_label x (labels_in z) ≡ Some k) × LabelAs nodes C N arity owner l k
  shape_some x l {s} {z} h some = subst (λ o. FoundLabel (LabelAs nodes C N arity owner) o (find_label x (labels_in z))) some (shape_label x h)

-- labels that are one by one the same have one type for a name
pub same_find : (x : Name) {ls ks : List rules.Label} → OneByOne SameLabel ls ks → option_map (λ (l : rules.Label). l.body) (find_label x ls) ≡ option_map (λ (l : rules.Label). l.body) (find_label x ks)
same_find x no_more = refl
same_find x (one_more {x = l} {y = k} {xs = ls} {ys = ks} p ps) =
    ap (λ n. option_map (λ (z : rules.Label). z.body) (if same_name x n then Some l else find_label x ls)) p.name ∙ by (same_name x k.name) (same_find x ps)
  where
    by : (b : Bool) → option_map (λ (z : rules.Label). z.body) (find_label x ls) ≡ option_map (λ (z : rules.Label). z.body) (find_label x ks) →
        option_map (λ (z : rules.Label). z.body) (if b then Some l else find_label x ls) ≡ option_map (λ (z : rules.Label). z.body) (if b then Some k else find_label x ks)
    by true h = ap (λ t. Some t) p.body
    by false h = h

-- so declarations that are one as records have one type for a written label
pub same_field : {d e : rules.Declaration} → SameRecord d e → (p : parts.Written) → field_in (labels_in d.shape) p ≡ field_in (labels_in e.shape) p
same_field {d} {e} s p = by p.last
  where
    by : (o : Option Tok) → then_by o (λ t. option_map (λ (l : rules.Label). l.body) (find_label t.name (labels_in d.shape))) ≡ then_by o (λ t. option_map (λ (l : rules.Label). l.body) (find_label t.name (labels_in e.shape)))
    by None = refl
    by (Some t) = same_find t.name s.labels
