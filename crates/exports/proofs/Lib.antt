-- Scalars that go out and come back.
pub mod RawLaws
