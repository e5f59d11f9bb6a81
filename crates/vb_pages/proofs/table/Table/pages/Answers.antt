use Rattle.{std.proofs.Common.{length, ap, sym, ◌∙◌}, vb_pages.proofs.TableLemmas.length-table_of}
use Rattle.vb_pages.proofs.table.Table.pages.Goals as goal

pub returns : goal.returns
returns c = sym (length-table_of c.self.inside.pages c.self.inside.blocks.items)
    ∙ ap length c.self.view_is
