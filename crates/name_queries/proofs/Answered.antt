-- What is answered where modules lead to no module.
use Rattle.std.proofs.Common.{◌≡◌, ◌∙◌, ℕ, List, true, ap, subst, None, Err}
use Rattle.std.specs.List.{join_with_byte}
use Rattle.signature_model.specs.Declarations.{Name}
use Rattle.query_model.specs.Prefixes.{is_name_prefix}
use Rattle.query_model.specs.PrefixParts.{modules_of}
use Rattle.query_engine.specs.declared.asked.Asked.{Asked}
use Rattle.query_engine.specs.declared.asked.QueryFault.{QueryFault}
use Rattle.query_engine.specs.declared.asked.QueryFault.TheVariants.{NoNode, NotAName, Unbound, NoMemory}
use Rattle.name_queries.specs.Environments.{env_at, names_behind}
use Rattle.name_queries.specs.Completions.{MeetsPrefix, TellsPath}

pub no_module : (a : Asked) (o : ℕ) (prefix : List ℕ) (ms : List Name) (e : QueryFault) → is_name_prefix prefix ≡ true → ms ≡ modules_of prefix → names_behind (env_at a o) ms ≡ None → TellsPath ms e → MeetsPrefix a o prefix (Err e)
no_module a o prefix ms (Unbound ident) form is none told =
    (form, subst (λ (ns : List Name). names_behind (env_at a o) ns ≡ None) is none, told ∙ ap (join_with_byte 46) is)
no_module a o prefix ms NotAName form is none told = absurd told
no_module a o prefix ms NoNode form is none told = absurd told
no_module a o prefix ms NoMemory form is none told = tt
