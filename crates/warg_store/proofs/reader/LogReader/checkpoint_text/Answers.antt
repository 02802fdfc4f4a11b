use Rattle.warg_store.specs.Log.{LogOf}
use Rattle.warg_store.specs.Reading.{Reads}
use Rattle.warg_store.proofs.reader.LogReader.checkpoint_text.Goals.{After-read_edge}
use Rattle.warg_store.proofs.reader.LogReader.checkpoint_text.Goals as goal

-- a reader whose folder was only read has the log still
still_read : (g : _) (c : After-read_edge g) → g.F.Folder.IsFaithful → (log : LogOf)
    → Reads g.F.Folder.seen log c.args.self.now
    → Reads g.F.Folder.seen log (record { folder = c.read_edge.new.folder; text = c.self.inside.text })
still_read g c faithful log reads =
    let inside = rw (← c.self.view_is) at reads in
    record {
      can = inside.can;
      text = inside.text;
      files = rw (c.read_edge.ensures.read faithful).found inside.files;
    }

pub returns-clause-reads : goal.returns-clause-reads
returns-clause-reads g c =
    still_read g (goal.at.returns-clause-reads g c).After-read_edge

pub returns-in_err-edge-clause-reads : goal.returns-in_err-edge-clause-reads
returns-in_err-edge-clause-reads g c =
    still_read g (goal.at.returns-in_err-edge-clause-reads g c).After-read_edge

pub returns-in_err-open_edge-clause-reads : goal.returns-in_err-open_edge-clause-reads
returns-in_err-open_edge-clause-reads g c =
    still_read g (goal.at.returns-in_err-open_edge-clause-reads g c).After-read_edge

pub returns-in_err-write-clause-reads : goal.returns-in_err-write-clause-reads
returns-in_err-write-clause-reads g c =
    still_read g (goal.at.returns-in_err-write-clause-reads g c).After-read_edge
