use Rattle.std.proofs.Common.{refl}
use Rattle.tables.specs.declared.depth.Depth.TheVariants.{Eight, Ten, Twelve}
use Rattle.tables.specs.Depths.{dc_table, ac_table}
use Rattle.tables.proofs.Rising.{dc_table_stands, ac_table_stands}
use Rattle.tables.proofs.depth.Depth.table.Goals as goal

pub returns-in-Dc-Eight : goal.returns-in-Dc-Eight
unfolding dc_table
returns-in-Dc-Eight c = record { value = rw (c.in-Dc-Eight.is-0, c.in-Dc-Eight.is-1) refl; rule = dc_table_stands Eight }

pub returns-in-Dc-Ten : goal.returns-in-Dc-Ten
unfolding dc_table
returns-in-Dc-Ten c = record { value = rw (c.in-Dc-Ten.is-0, c.in-Dc-Ten.is-1) refl; rule = dc_table_stands Ten }

pub returns-in-Dc-Twelve : goal.returns-in-Dc-Twelve
unfolding dc_table
returns-in-Dc-Twelve c = record { value = rw (c.in-Dc-Twelve.is-0, c.in-Dc-Twelve.is-1) refl; rule = dc_table_stands Twelve }

pub returns-in-Ac-Eight : goal.returns-in-Ac-Eight
unfolding ac_table
returns-in-Ac-Eight c = record { value = rw (c.in-Ac-Eight.is-0, c.in-Ac-Eight.is-1) refl; rule = ac_table_stands Eight }

pub returns-in-Ac-Ten : goal.returns-in-Ac-Ten
unfolding ac_table
returns-in-Ac-Ten c = record { value = rw (c.in-Ac-Ten.is-0, c.in-Ac-Ten.is-1) refl; rule = ac_table_stands Ten }

pub returns-in-Ac-Twelve : goal.returns-in-Ac-Twelve
unfolding ac_table
returns-in-Ac-Twelve c = record { value = rw (c.in-Ac-Twelve.is-0, c.in-Ac-Twelve.is-1) refl; rule = ac_table_stands Twelve }
