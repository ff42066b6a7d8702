-- Lists as JSON, and that no reply has a float.
use Rattle.std.proofs.Common.{◌≡◌, List, [], ◌∷◌, false, ◌||◌, map, refl, ap, ◌∙◌}
use Rattle.serde_json.specs.Data.{Data, item, string, array}
use Rattle.serde_json.specs.View.{items_of}
use Rattle.serde_json.specs.Written.{has_float, items_have_float}
use Rattle.service_model.specs.Requests as model
use Rattle.service_model.specs.Replies as said
use Rattle.text_terms.specs.Bytes.{str_bytes}
use Rattle.json_lines.specs.Meets.{pair_of}
use Rattle.json_lines.specs.Means.{outlined_of, outlined_step, outline_of, outline_kind_text}
use Rattle.json_lines.specs.declared.reply.Outlined.{Outlined, out-Outlined, fold_out-Outlined}

-- a member as JSON, by what stands in the code's member
pub outlined_parts : (o : Outlined) → said.outlined_data (outlined_of o)
    ≡ said.member_data (array (said.outline_items (outline_of (map outlined_of (out-Outlined o).children.items)))) (pair_of (out-Outlined o).start) (pair_of (out-Outlined o).end)
    (outline_kind_text (out-Outlined o).kind) (str_bytes (out-Outlined o).name)
outlined_parts o = ap said.outlined_data (fold_out-Outlined said.Outlined outlined_step o)

-- the items of an outline are those of its members, one after another
pub outline_items_map : (os : List Outlined) → items_of (map (λ o. said.outlined_data (outlined_of o)) os) ≡ said.outline_items (outline_of (map outlined_of os))
outline_items_map [] = refl
outline_items_map (o ∷ os) = ap (item (said.outlined_data (outlined_of o))) (outline_items_map os)

-- a list has no float where no member has one
no_float_items : {A : Type 0} (f : A → Data) → ((x : A) → has_float (f x) ≡ false) → (xs : List A) → items_have_float (items_of (map f xs)) ≡ false
no_float_items f none [] = refl
no_float_items f none (x ∷ xs) = ap (λ b. b || items_have_float (items_of (map f xs))) (none x) ∙ no_float_items f none xs

mutual
  no_float_outlined : (o : said.Outlined) → has_float (said.outlined_data o) ≡ false
  no_float_outlined (said.outlined start end kind name inner) = ap (λ b. b || false) (no_float_outline inner)

  no_float_outline : (o : said.Outline) → items_have_float (said.outline_items o) ≡ false
  no_float_outline said.no_more = refl
  no_float_outline (said.next o os) = ap (λ b. b || items_have_float (said.outline_items os)) (no_float_outlined o) ∙ no_float_outline os

no_float_refusal : (r : model.Refusal) → has_float (said.refusal_data r) ≡ false
no_float_refusal model.line_too_long = refl
no_float_refusal model.not_json = refl
no_float_refusal model.not_a_request = refl
no_float_refusal model.unknown_query = refl
no_float_refusal (model.missing_key key) = refl
no_float_refusal (model.bad_number key) = refl

-- no reply has a float
pub no_float : (s : said.Said) → has_float (said.said_data s) ≡ false
no_float (said.size n) = refl
no_float (said.types ts) = ap (λ b. b || false) (no_float_items said.typed_data (λ t. refl) ts)
no_float (said.entries es more) = ap (λ b. b || false || false) (no_float_items said.entry_data (λ e. refl) es)
no_float (said.place file pos) = refl
no_float (said.spans ss) = ap (λ b. b || false) (no_float_items said.span_data (λ s. refl) ss)
no_float (said.outline o) = ap (λ b. b || false) (no_float_outline o)
no_float (said.faults fs more) = ap (λ b. b || false || false) (no_float_items said.fault_data (λ f. refl) fs)
no_float (said.split start end text) = refl
no_float (said.terms start end texts) = ap (λ b. b || false || false) (no_float_items string (λ t. refl) texts)
no_float said.no_node = refl
no_float said.not_a_name = refl
no_float (said.unbound ident) = refl
no_float said.nothing_to_split = refl
no_float (said.hidden_constructor name) = refl
no_float (said.would_fault at) = refl
no_float said.not_a_hole = refl
no_float (said.refused r) = ap (λ b. b || false) (no_float_refusal r)
no_float (said.bad_position key) = refl
no_float said.bad_range = refl
no_float (said.splits_char key) = refl
no_float (said.text_too_long n) = refl
no_float said.no_memory = refl
