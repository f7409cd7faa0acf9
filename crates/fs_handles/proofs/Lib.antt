mod Examples
mod HeldLaws
