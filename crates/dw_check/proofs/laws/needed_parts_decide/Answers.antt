use Rattle.dw_check.proofs.LongFiles.{parts_decide}
use Rattle.dw_check.proofs.laws.needed_parts_decide.Goals as goal

pub returns : goal.returns
returns c asked files reply = parts_decide asked.task asked.load asked.module_loads asked.target asked.hex files reply
