use Rattle.bank_stages.proofs.Stages.{ready_at}
use Rattle.bank_step.proofs.Floors.{seeded, pushed, raw_stored, raw_is, usable_stored, block_stored, all_stored}
use Rattle.bank_step.proofs.floor_hop.Goals as goal

pub push_all-requires : goal.push_all-requires
push_all-requires c = ready_at _ _ _ _ (seeded c.args.power_db.now c.args.bank.now c.args.bank_f.now c.requires.0 c.requires.1 c.take_seeds.new.bank c.take_seeds.new.bank_f c.take_seeds.ensures)

pub raw_floors-requires : goal.raw_floors-requires
raw_floors-requires c = (ready_at _ _ _ _ (pushed c.args.power_db.now c.args.bank.now c.args.bank_f.now c.requires.0 c.requires.1 c.take_seeds.new.bank c.take_seeds.new.bank_f c.take_seeds.ensures c.push_all.new.bank c.push_all.ensures)).0

pub usable_floors-requires-clause-ready : goal.usable_floors-requires-clause-ready
usable_floors-requires-clause-ready c = (ready_at _ _ _ _ (raw_stored c.args.power_db.now c.args.bank.now c.args.bank_f.now c.requires.0 c.requires.1 c.take_seeds.new.bank c.take_seeds.new.bank_f c.take_seeds.ensures c.push_all.new.bank c.push_all.ensures c.raw_floors.new.bank_f c.raw_floors.ensures)).0

pub usable_floors-requires-clause-bank_f_value : goal.usable_floors-requires-clause-bank_f_value
usable_floors-requires-clause-bank_f_value c = raw_is c.args.power_db.now c.args.bank.now c.args.bank_f.now c.requires.0 c.requires.1 c.take_seeds.new.bank c.take_seeds.new.bank_f c.take_seeds.ensures c.push_all.new.bank c.push_all.ensures c.raw_floors.new.bank_f c.raw_floors.ensures

pub block_floors-requires : goal.block_floors-requires
block_floors-requires c = (ready_at _ _ _ _ (usable_stored c.args.power_db.now c.args.bank.now c.args.bank_f.now c.requires.0 c.requires.1 c.take_seeds.new.bank c.take_seeds.new.bank_f c.take_seeds.ensures c.push_all.new.bank c.push_all.ensures c.raw_floors.new.bank_f c.raw_floors.ensures c.usable_floors.new.bank_f c.usable_floors.ensures)).0

pub rise_floors-requires : goal.rise_floors-requires
rise_floors-requires c = (ready_at _ _ _ _ (block_stored c.args.power_db.now c.args.bank.now c.args.bank_f.now c.requires.0 c.requires.1 c.take_seeds.new.bank c.take_seeds.new.bank_f c.take_seeds.ensures c.push_all.new.bank c.push_all.ensures c.raw_floors.new.bank_f c.raw_floors.ensures c.usable_floors.new.bank_f c.usable_floors.ensures c.block_floors.new.bank_f c.block_floors.ensures)).0

pub returns : goal.returns
returns c = all_stored c.args.power_db.now c.args.bank.now c.args.bank_f.now c.requires.0 c.requires.1 c.take_seeds.new.bank c.take_seeds.new.bank_f c.take_seeds.ensures c.push_all.new.bank c.push_all.ensures c.raw_floors.new.bank_f c.raw_floors.ensures c.usable_floors.new.bank_f c.usable_floors.ensures c.block_floors.new.bank_f c.block_floors.ensures c.rise_floors.new.bank_f c.rise_floors.ensures
