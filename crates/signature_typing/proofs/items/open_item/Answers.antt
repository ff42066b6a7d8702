use Rattle.signature_typing.proofs.items.open_item.Goals as goal

pub returns : goal.returns
returns c = record { goes = c.module_path.ensures.goes }

pub returns-in_err-sig : goal.returns-in_err-sig
returns-in_err-sig c = record { goes = c.module_path.ensures.goes }
