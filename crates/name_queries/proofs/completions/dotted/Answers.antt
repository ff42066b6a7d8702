use Rattle.std.proofs.Common.{◌∙◌, ◌++◌, ap, sym, map, List, ℕ}
use Rattle.std.specs.List.{join_with_byte}
use Rattle.text_terms.specs.Bytes.{str_bytes}
use Rattle.text_terms.specs.declared.RcStr.{RcStr}
use Rattle.name_queries.proofs.PrefixParts.{pointed, joined}
use Rattle.name_queries.proofs.completions.dotted.Goals as goal

pub loop-name-init : goal.loop-name-init
loop-name-init c =
    let others = map str_bytes c.in-Some.others.now in
    ap (λ (bs : List ℕ). bs ++ pointed others) (c.in-Ok.ensures.ok ∙ c.as_str.ensures)
    ∙ joined (str_bytes c.in-Some.first.now) others
    ∙ ap (λ (ns : List RcStr). join_with_byte 46 (map str_bytes ns)) (sym c.in-Some.ensures.cases.0)
